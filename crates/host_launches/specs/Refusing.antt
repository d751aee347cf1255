-- Refusals of a host's launch, by a number and a place.
use Rattle.std.specs.Prelude.{◌≡◌, ◌⊎◌, ℕ, Bool, true, false, Result, Ok, Err}
use Rattle.host_launches.specs.declared.given.Refusal.{Refusal}

abbrev pub refusal : (number place : ℕ) → Refusal
refusal number place = record { number = number; place = place }

abbrev pub fine : Result (Unit {0}) Refusal
fine = Ok tt

-- goes on where nothing is refused
abbrev pub on : {A B : Type 0} → Result A Refusal → (A → Result B Refusal) → Result B Refusal
on (Ok a) next = next a
on (Err e) next = Err e

abbrev pub when : {A : Type 0} → Bool → (number place : ℕ) → Result A Refusal → Result A Refusal
when true number place next = next
when false number place next = Err (refusal number place)

-- want of memory
abbrev pub memory : Refusal
memory = refusal 90 0

-- an answer is that one, unless memory was refused
abbrev pub Tells : {A : Type 0} → Result A Refusal → Result (Unit {0}) Refusal → Type 0
Tells (Ok a) told = told ≡ fine
Tells (Err e) told = (e ≡ memory) ⊎ (told ≡ Err e)
