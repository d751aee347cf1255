-- What the entries of a certificate say of obligations.
use Rattle.std.specs.Prelude.{◌≡◌, ℕ, ◌-◌, ℤ, pos, negsuc, List, [], ◌∷◌, map, Bool, true, false, not, cond, ◌&&◌, ◌||◌, nat_eq, nat_le, nat_lt, length, ◌+◌, Option, None, Some, slice_index_or}
use Rattle.std.specs.Option.{option_map}
use Rattle.std.specs.Ordering.{int_eq}
use Rattle.linear.specs.Linear.{Weighted, Form}
use Rattle.certificate_text.specs.Certificate.{Name, Entry, EntrySort, Show, Positive, Negative, Quotient, Lemma, Step, Given, Sum, Divide, Product, Scaled}
use Rattle.cut_proof.specs.Derivations as derivations
use Rattle.cut_proof.specs.Derivations.{Forms, Line, refutes_with}
use Rattle.facts.specs.Symbols.{Fact}
use Rattle.walk_trees.specs.Trees.{Obligation, Manner, Plainly, ByPositive, ByNegative, ByQuotient, facts_by}
use Rattle.two_thread.specs.Quotients.{is_second_claim}
use Rattle.certificate_notes.specs.Noted.{each}

-- what a form of names is in symbols, where the kernel has all of them
abbrev pub Stating : Type 0
Stating = Form Name → Option Fact

-- that, and the quotient that the entry of a claim names
pub record Said : Type 0 where
  pub quotient : (claim : ℕ) → Fact
  pub stated : Stating

-- a number of a line or a fact; one that is none, or has over 32 bits, is 0, which names nothing
abbrev pub line_number : ℤ → ℕ
line_number (pos n) = cond (nat_le n 4294967295) n 0
line_number (negsuc n) = 0

abbrev pub part_of : Scaled → ℤ × ℕ
part_of s = (s.factor, line_number s.line)

-- a step of an entry as a line of a derivation
abbrev pub line_of : Step → Line
line_of (Given fact) = derivations.Given (line_number fact)
line_of (Sum parts) = derivations.Sum (map part_of parts)
line_of (Divide by) = derivations.Divide by.factor (line_number by.line)
line_of (Product first second) = derivations.Product (line_number first) (line_number second)

-- a lemma of an entry as one of a derivation, where the kernel has all that it names
abbrev pub lemma_by : List Step → Fact → derivations.Lemma
lemma_by steps f = record { form = f; lines = map line_of steps }

abbrev pub lemma_of : Stating → Lemma → Option derivations.Lemma
lemma_of stated l = option_map (lemma_by l.steps) (stated l.form)

abbrev pub lemmas_of : Stating → List Lemma → Option (List derivations.Lemma)
lemmas_of stated ls = each (lemma_of stated) ls

-- how many lines lemmas have
abbrev pub lemma_lines : List Lemma → ℕ
lemma_lines [] = 0
lemma_lines (l ∷ ls) = length l.steps + lemma_lines ls

-- at most 64 lemmas, and with lemmas at most 65,536 lines
abbrev pub are_few : List Lemma → (own : ℕ) → Bool
are_few [] own = true
are_few (l ∷ ls) own = nat_le (length (l ∷ ls)) 64 && nat_le (own + lemma_lines (l ∷ ls)) 65536

-- how an entry of a sort shows an obligation
abbrev pub manner_of : EntrySort → Manner
manner_of Show = Plainly
manner_of Positive = ByPositive
manner_of Negative = ByNegative
manner_of (Quotient form) = ByQuotient

-- the facts that are impossible where an obligation is shown so; none where an entry of that sort does not fit it
abbrev pub facts_for : EntrySort → Obligation → Option Forms
facts_for s o = facts_by (manner_of s) o

-- lemmas, each shown with those before it, and steps that refute the facts with all of them
abbrev pub refutes_lemmas : List Step → Forms → Option (List derivations.Lemma) → Bool
refutes_lemmas steps facts None = false
refutes_lemmas steps facts (Some ls) = refutes_with facts ls (map line_of steps)

abbrev pub refutes_all : Stating → Entry → Forms → Bool
refutes_all stated e facts = are_few e.lemmas (length e.steps) && refutes_lemmas e.steps facts (lemmas_of stated e.lemmas)

abbrev pub refutes_facts : Stating → Entry → Option Forms → Bool
refutes_facts stated e None = false
refutes_facts stated e (Some facts) = refutes_all stated e facts

-- an entry fits an obligation, and its derivation refutes the facts
abbrev pub refutes_by : Stating → Entry → Obligation → Bool
refutes_by stated e o = refutes_facts stated e (facts_for e.sort o)

-- an entry has this number; there are at most 65,536 obligations
abbrev pub is_of : ℕ → Entry → Bool
is_of n e = nat_le n 65536 && nat_eq e.obligation n

-- the last entry of a number, `found` where none of these is
abbrev pub last_of : (found : Option Entry) → List Entry → ℕ → Option Entry
last_of found [] n = found
last_of found (e ∷ es) n = last_of (cond (is_of n e) (Some e) found) es n

-- the entry of a number; entries rise by their numbers, so that there is one at most
abbrev pub entry_of : List Entry → ℕ → Option Entry
entry_of es n = last_of None es n

abbrev pub is_found : Option Entry → Bool
is_found None = false
is_found (Some e) = true

abbrev pub found_refutes : Stating → Option Entry → Obligation → Bool
found_refutes stated None o = false
found_refutes stated (Some e) o = refutes_by stated e o

-- an obligation of this number has an entry
abbrev pub has_entry : List Entry → ℕ → Bool
has_entry es n = is_found (entry_of es n)

-- two forms are the same
abbrev pub same_terms : List (Weighted ℕ) → List (Weighted ℕ) → Bool
same_terms [] [] = true
same_terms [] (u ∷ us) = false
same_terms (t ∷ ts) [] = false
same_terms (t ∷ ts) (u ∷ us) = int_eq t.coefficient u.coefficient && (nat_eq t.symbol u.symbol && same_terms ts us)

abbrev pub same_form : Fact → Fact → Bool
same_form f g = int_eq f.constant g.constant && same_terms f.terms g.terms

-- the entries of both claims of a congruence name one quotient
abbrev pub names_one : (quotient : ℕ → Fact) → (number : ℕ) → Obligation → Bool
names_one q n o = not (is_second_claim o.goal) || same_form (q n) (q (n - 1))

-- the entry of this number fits an obligation, and refutes its facts; where the obligation is the second claim of a congruence, it names
-- the quotient that the first one's entry names
abbrev pub is_refuted : Said → List Entry → (number : ℕ) → Obligation → Bool
is_refuted s es n o = names_one s.quotient n o && found_refutes s.stated (entry_of es n) o

-- an entry is past the last obligation
abbrev pub is_past : List Entry → (last : ℕ) → Bool
is_past [] last = false
is_past (e ∷ es) last = nat_lt last e.obligation || is_past es last

-- by their numbers, up to 65,536, which obligations have an entry
abbrev pub AreFlags : List Entry → (flags : List Bool) → Type 0
AreFlags es flags = (length flags ≡ 65537) × ((n : ℕ) → slice_index_or flags n false ≡ has_entry es n)
