-- One step of each reader of headers.
use Rattle.std.proofs.Common.{◌≡◌, ℕ, zero, suc, ◌-◌, List, [], ◌∷◌, ◌++◌, Bool, cond, ◌&&◌, Option, None, Some, refl, ap, ◌∙◌, map}
use Rattle.semantics.specs.Launch.{Three}
use Rattle.opencl_tokens.specs.Lexemes.{Lexeme}
use Rattle.opencl_tree.specs.Types.{Base}
use Rattle.opencl_tree.specs.Tree.{Statements}
use Rattle.opencl_parser.specs.Faults.{TooMany}
use Rattle.opencl_parser.specs.Reader.{Reader, Took, Refused, Gives, Passes, Then, carry, front, run, expects, takes}
use Rattle.opencl_parser.specs.Signs.{is_left_parenthesis, is_right_parenthesis, is_comma}
use Rattle.opencl_parser.specs.TypeNames.{Known, untyped, typing, base_of, starring}
use Rattle.opencl_parser.specs.Declarations.{is_left_brace, specified, new_name, dimensions}
use Rattle.opencl_parser.specs.Statements.{block_reader}
use Rattle.opencl_parser.specs.Parsed.{is_end}
use Rattle.opencl_parser.proofs.Steps.{pred, stops-carry}
use Rattle.opencl_files.specs.FileTree as trees
use Rattle.opencl_files.specs.Functions.{is_kernel}
use Rattle.opencl_files.specs.Headers as reads
use Rattle.opencl_files.specs.Headers.{is_attribute, number_at, number, size_reader, attribute_part, by_part, attributes, attribute, Lead, no_lead, by_specified, leading, Front, parameter_so, passed_name, name_if_any, parameter_at, parameter_of, more_parameters, without_void, trailing, Title, header_so, header_with, header_of}
use Rattle.opencl_files.specs.View.{parameter}
use Rattle.opencl_files.specs.declared.tree.Parameter as code

pub number-is : (ts : List Lexeme) → run number ts ≡ carry (run (takes number_at) ts) (λ n rest. Took n.0 rest)
unfolding number
number-is ts = refl

pub sizes-are : (ts : List Lexeme) → run size_reader ts ≡ carry (run (expects is_left_parenthesis) ts) (λ o rest. carry (run number rest) (λ x rest. carry (run (expects is_comma) rest) (λ a rest. carry (run number rest) (λ y rest. carry (run (expects is_comma) rest) (λ b rest. carry (run number rest) (λ z rest. carry (run (expects is_right_parenthesis) rest) (λ c rest. Took (record { x = x; y = y; z = z }) rest)))))))
unfolding size_reader
sizes-are ts = refl

pub attributes-none : (left depth : ℕ) (so : Option (Three ℕ)) (ts : List Lexeme) → left ≡ 0 → run (attributes left depth so) ts ≡ Refused TooMany (front ts).site
unfolding attributes
attributes-none left depth so ts h = ap (λ n. run (attributes n depth so) ts) h

attributes-more : (left depth : ℕ) (so : Option (Three ℕ)) (ts : List Lexeme) → run (attributes (suc left) depth so) ts ≡ run (by_part (attributes left) depth so (attribute_part depth (front ts).kind)) ts
unfolding attributes
attributes-more left depth so ts = refl

pub attributes-less : (left depth : ℕ) (so : Option (Three ℕ)) (ts : List Lexeme) → (left ≡ 0 → ⊥) → run (attributes left depth so) ts ≡ run (by_part (attributes (left - 1)) depth so (attribute_part depth (front ts).kind)) ts
attributes-less left depth so ts h = ap (λ n. run (attributes n depth so) ts) (pred left h) ∙ attributes-more (left - 1) depth so ts

pub attribute-is : (so : Option (Three ℕ)) (ts : List Lexeme) → run (attribute so) ts ≡ carry (run (expects is_left_parenthesis) ts) (λ a rest. carry (run (expects is_left_parenthesis) rest) (λ b rest. run (attributes 256 2 so) rest))
unfolding attribute
attribute-is so ts = refl

pub leading-none : (ks : List Known) (left : ℕ) (l : Lead) (ts : List Lexeme) → left ≡ 0 → run (leading ks left l) ts ≡ Refused TooMany (front ts).site
unfolding leading
leading-none ks left l ts h = ap (λ n. run (leading ks n l) ts) h

abbrev lead_step : List Known → ℕ → Lead → Lexeme → Reader Lead
lead_step ks left l t =
    cond (is_attribute t.kind) (Passes (Then (attribute l.sizes) (λ s. leading ks left (record { typed = l.typed; sizes = s }))))
    (cond (is_kernel t.kind) (Passes (leading ks left l)) (by_specified (leading ks left) l (specified ks l.typed t.kind)))

leading-more : (ks : List Known) (left : ℕ) (l : Lead) (ts : List Lexeme) → run (leading ks (suc left) l) ts ≡ run (lead_step ks left l (front ts)) ts
unfolding leading
leading-more ks left l ts = refl

pub leading-less : (ks : List Known) (left : ℕ) (l : Lead) (ts : List Lexeme) → (left ≡ 0 → ⊥) → run (leading ks left l) ts ≡ run (lead_step ks (left - 1) l (front ts)) ts
leading-less ks left l ts h = ap (λ n. run (leading ks n l) ts) (pred left h) ∙ leading-more ks (left - 1) l ts

pub parameter-is : (ks : List Known) (ts : List Lexeme) → run (reads.parameter ks) ts ≡ carry (run (typing ks 16 untyped) ts) (λ t rest. run (parameter_of ks t.qualifiers (base_of t.written)) rest)
unfolding reads.parameter
parameter-is ks ts = refl

pub name-is : (ks : List Known) (ts : List Lexeme) → run (name_if_any ks) ts ≡ run (passed_name (new_name ks (front ts).kind)) ts
unfolding name_if_any
name-is ks ts = refl

pub parameter_at-is : (ks : List Known) (f : Front) (ts : List Lexeme) → run (parameter_at ks f) ts ≡ carry (run (name_if_any ks) ts) (λ x rest. carry (run (dimensions ks 64 8 []) rest) (λ ds rest. Took (parameter_so f (front ts).site x ds) rest))
unfolding parameter_at
parameter_at-is ks f ts = refl

pub parameters-none : (ks : List Known) (left : ℕ) (so : List trees.Parameter) (ts : List Lexeme) → left ≡ 0 → run (more_parameters ks left so) ts ≡ Refused TooMany (front ts).site
unfolding more_parameters
parameters-none ks left so ts h = ap (λ n. run (more_parameters ks n so) ts) h

parameters-more : (ks : List Known) (left : ℕ) (so : List trees.Parameter) (ts : List Lexeme) → run (more_parameters ks (suc left) so) ts ≡ run (cond (is_comma (front ts).kind) (Passes (Then (reads.parameter ks) (λ p. more_parameters ks left (so ++ p ∷ [])))) (Then (expects is_right_parenthesis) (λ closing. Gives so))) ts
unfolding more_parameters
parameters-more ks left so ts = refl

pub parameters-less : (ks : List Known) (left : ℕ) (so : List trees.Parameter) (ts : List Lexeme) → (left ≡ 0 → ⊥) → run (more_parameters ks left so) ts ≡ run (cond (is_comma (front ts).kind) (Passes (Then (reads.parameter ks) (λ p. more_parameters ks (left - 1) (so ++ p ∷ [])))) (Then (expects is_right_parenthesis) (λ closing. Gives so))) ts
parameters-less ks left so ts h = ap (λ n. run (more_parameters ks n so) ts) (pred left h) ∙ parameters-more ks (left - 1) so ts

pub parameters-are : (ks : List Known) (ts : List Lexeme) → run (reads.parameters ks) ts ≡ run (cond (is_right_parenthesis (front ts).kind) (Passes (Gives [])) (Then (reads.parameter ks) (λ p. Then (more_parameters ks 256 (p ∷ [])) (λ ps. Gives (without_void ps))))) ts
unfolding reads.parameters
parameters-are ks ts = refl

pub trailing-none : (left : ℕ) (so : Option (Three ℕ)) (ts : List Lexeme) → left ≡ 0 → run (trailing left so) ts ≡ Refused TooMany (front ts).site
unfolding trailing
trailing-none left so ts h = ap (λ n. run (trailing n so) ts) h

trailing-more : (left : ℕ) (so : Option (Three ℕ)) (ts : List Lexeme) → run (trailing (suc left) so) ts ≡ run (cond (is_attribute (front ts).kind) (Passes (Then (attribute so) (λ s. trailing left s))) (Gives so)) ts
unfolding trailing
trailing-more left so ts = refl

pub trailing-less : (left : ℕ) (so : Option (Three ℕ)) (ts : List Lexeme) → (left ≡ 0 → ⊥) → run (trailing left so) ts ≡ run (cond (is_attribute (front ts).kind) (Passes (Then (attribute so) (λ s. trailing (left - 1) s))) (Gives so)) ts
trailing-less left so ts h = ap (λ n. run (trailing n so) ts) (pred left h) ∙ trailing-more (left - 1) so ts

pub title-is : (ks : List Known) (ts : List Lexeme) → run (reads.title ks) ts ≡ carry (run (starring 16 []) ts) (λ stars rest. carry (run (takes (new_name ks)) rest) (λ x rest. carry (run (expects is_left_parenthesis) rest) (λ o rest. Took (record { stars = stars; site = x.1; name = x.0 }) rest)))
unfolding reads.title
title-is ks ts = refl

pub header_with-is : (ks : List Known) (l : Lead) (base : Base) (ts : List Lexeme) → run (header_with ks l base) ts ≡ carry (run (reads.title ks) ts) (λ x rest. carry (run (reads.parameters ks) rest) (λ ps rest. carry (run (trailing 16 l.sizes) rest) (λ s rest. Took (header_so l base x ps s) rest)))
unfolding header_with
header_with-is ks l base ts = refl

pub header-is : (ks : List Known) (ts : List Lexeme) → run (reads.header ks) ts ≡ carry (run (leading ks 16 no_lead) ts) (λ l rest. run (header_of ks l (base_of l.typed.written)) rest)
unfolding reads.header
header-is ks ts = refl

pub body-is : (ks : List Known) (ts : List Lexeme) → run (reads.body ks) ts ≡ carry (run (expects is_left_brace) ts) (λ o rest. carry (run (block_reader ks 64 1) rest) (λ b rest. carry (run (expects is_end) rest) (λ e rest. Took b.0 rest)))
unfolding reads.body
body-is ks ts = refl

pub function-is : (ks : List Known) (ts : List Lexeme) → run (reads.function ks) ts ≡ carry (run (reads.header ks) ts) (λ h rest. carry (run (reads.body ks) rest) (λ b rest. Took (h, b) rest))
unfolding reads.function
function-is ks ts = refl

pub parameters-snoc : (ps : List code.Parameter) (p : code.Parameter) → map parameter (ps ++ p ∷ []) ≡ map parameter ps ++ parameter p ∷ []
parameters-snoc [] p = refl
parameters-snoc (x ∷ ps) p = ap (λ r. parameter x ∷ r) (parameters-snoc ps p)

pub ruleset header_steps = (stops-carry, number-is, sizes-are, attributes-none, attributes-less, attribute-is, leading-none, leading-less, name-is, parameter_at-is, parameter-is, parameters-none, parameters-less, parameters-are, trailing-none, trailing-less, title-is, header_with-is, header-is, body-is, function-is, parameters-snoc)
