-- What a span of the code means.
use Rattle.boxes.specs.Boxes.{Ends}
use Rattle.ranges.specs.declared.spans.Span.{Span}

-- the ends of a span
abbrev pub span_ends : Span → Ends
span_ends s = record { lo = s.low; hi = s.high }
