-- Checks in order: the first fault that they find, and what is read where they find none.
use Rattle.std.specs.Prelude.{ℕ, zero, suc, Bool, cond, List, [], ◌∷◌, map, Some, None, Ok, Err, Option, Result}
use Rattle.std.specs.List.{range_with_len}
use Rattle.records.specs.declared.reason.Reason.{Reason}
use Rattle.records.specs.declared.reason.Refusal.{Refusal}

-- a fault is met where the test says so
abbrev pub when : Bool → Reason → ℕ → Option Refusal
when b why at = cond b (Some (record { reason = why; place = at })) None

-- the first fault, or the second where there is no first
abbrev pub or_else : Option Refusal → Option Refusal → Option Refusal
or_else None y = y
or_else (Some x) y = Some x

-- the first fault of a list of checks
abbrev pub first : List (Option Refusal) → Option Refusal
first [] = None
first (x ∷ xs) = or_else x (first xs)

-- the first fault of the items 0 to n - 1
abbrev pub first_of : (ℕ → Option Refusal) → ℕ → Option Refusal
first_of f zero = None
first_of f (suc n) = or_else (first_of f n) (f n)

-- the items 0 to n - 1
abbrev pub listed : {A : Type 0} → (ℕ → A) → ℕ → List A
listed f n = map f (range_with_len 0 n)

-- the value, unless there is a fault
abbrev pub unless : {A : Type 0} → Option Refusal → A → Result A Refusal
unless None x = Ok x
unless (Some e) x = Err e

-- nothing to tell, unless there is a fault
abbrev pub passed : Option Refusal → Result (Unit {0}) Refusal
passed o = unless o tt

-- what a function gives of the value, with a refusal left as it is
abbrev pub mapped : {A B : Type 0} → (A → B) → Result A Refusal → Result B Refusal
mapped f (Ok x) = Ok (f x)
mapped f (Err e) = Err e
