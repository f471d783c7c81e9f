-- Where the parts of a job record stand, by its counts.
use Rattle.std.specs.Prelude.{ℕ, ◌+◌, ◌*◌}

-- how many bytes a side takes
abbrev pub side_size : ℕ
side_size = 4

-- how many bytes an instruction takes
abbrev pub instruction_size : ℕ
instruction_size = 7

-- how many bytes a target takes
abbrev pub target_size : ℕ
target_size = 9

-- where the version stands
abbrev pub version_place : ℕ
version_place = 4

-- where the knob count stands
abbrev pub knobs_place : ℕ
knobs_place = 5

-- where the limit stands
abbrev pub limit_place : ℕ
limit_place = 6

-- where the sides start
abbrev pub sides_start : ℕ
sides_start = 8

-- where the instruction count stands: after the sides
abbrev pub program_place : ℕ → ℕ
program_place knobs = sides_start + side_size * knobs

-- where the instructions start
abbrev pub program_start : ℕ → ℕ
program_start knobs = program_place knobs + 1

-- where the target count stands: after the instructions
abbrev pub targets_place : ℕ → ℕ → ℕ
targets_place knobs instructions = program_start knobs + instruction_size * instructions

-- where the targets start
abbrev pub targets_start : ℕ → ℕ → ℕ
targets_start knobs instructions = targets_place knobs instructions + 1

-- where the record ends: after the targets
abbrev pub end_place : ℕ → ℕ → ℕ → ℕ
end_place knobs instructions targets = targets_start knobs instructions + target_size * targets
