-- One step of each reader of what stands before a kernel.
use Rattle.std.proofs.Common.{◌≡◌, ℕ, zero, suc, ◌-◌, List, [], ◌∷◌, ◌++◌, cond, Option, None, Some, refl, ap, ◌∙◌, map}
use Rattle.semantics.specs.Core.{Site}
use Rattle.opencl_tokens.specs.Lexemes.{Lexeme}
use Rattle.opencl_tree.specs.Tree.{Expression}
use Rattle.opencl_tree.specs.View.{declaration}
use Rattle.opencl_tree.specs.declared.tree.Declaration as declarations
use Rattle.opencl_parser.specs.Faults.{TooMany}
use Rattle.opencl_parser.specs.Reader.{Reader, Took, Refused, Gives, Looks, Passes, Then, carry, front, behind, run, expects, takes}
use Rattle.opencl_parser.specs.Signs.{is_comma}
use Rattle.opencl_parser.specs.TypeNames.{Known}
use Rattle.opencl_parser.specs.Expressions.{level}
use Rattle.opencl_parser.specs.Declarations.{is_equal, is_left_brace, is_right_brace, new_name, alias}
use Rattle.opencl_parser.specs.Statements.{is_semicolon}
use Rattle.opencl_parser.specs.View.{known}
use Rattle.opencl_parser.specs.declared.type_words.Known as words
use Rattle.opencl_parser.proofs.Steps.{pred, stops-carry}
use Rattle.std.specs.Prelude.{Vec}
use Rattle.std.specs.declared.alloc.Global.{Global}
use Rattle.opencl_files.specs.FileTree as trees
use Rattle.opencl_files.specs.Fronts as reads
use Rattle.opencl_files.specs.Fronts.{type_named, more_enumerators, is_name, enumeration}
use Rattle.opencl_tree.specs.declared.tree.Stmt.{Stmt}
use Rattle.opencl_files.specs.View.{enumerator, enumerators, function}
use Rattle.opencl_files.specs.declared.tree.Header.{Header}
use Rattle.opencl_files.specs.declared.tree.Enumerator as code

pub type_named-is : (ks : List Known) (at : Site) (ts : List Lexeme) → run (type_named ks at) ts ≡ carry (run (alias ks 64 0 at) ts) (λ d rest. carry (run (expects is_semicolon) rest) (λ s rest. Took d rest))
unfolding type_named
type_named-is ks at ts = refl

pub value-is : (ks : List Known) (ts : List Lexeme) → run (reads.value ks) ts ≡ run (cond (is_equal (front ts).kind) (Passes (Then (level ks 64 11) (λ e. Gives (Some e)))) (Gives None)) ts
unfolding reads.value
value-is ks ts = refl

pub enumerator-is : (ks : List Known) (ts : List Lexeme) → run (reads.enumerator ks) ts ≡ carry (run (takes (new_name ks)) ts) (λ x rest. carry (run (reads.value ks) rest) (λ e rest. Took (record { site = x.1; name = x.0; value = e }) rest))
unfolding reads.enumerator
enumerator-is ks ts = refl

pub enumerators-none : (ks : List Known) (left : ℕ) (so : List trees.Enumerator) (ts : List Lexeme) → left ≡ 0 → run (more_enumerators ks left so) ts ≡ Refused TooMany (front ts).site
unfolding more_enumerators
enumerators-none ks left so ts h = ap (λ n. run (more_enumerators ks n so) ts) h

abbrev next_step : List Known → ℕ → List trees.Enumerator → Lexeme → Reader (List trees.Enumerator)
next_step ks left so t =
    cond (is_comma t.kind) (Passes (Looks (λ n. cond (is_right_brace n.kind) (Passes (Gives so)) (Then (reads.enumerator ks) (λ e. more_enumerators ks left (so ++ e ∷ []))))))
    (Then (expects is_right_brace) (λ closing. Gives so))

enumerators-more : (ks : List Known) (left : ℕ) (so : List trees.Enumerator) (ts : List Lexeme) → run (more_enumerators ks (suc left) so) ts ≡ run (next_step ks left so (front ts)) ts
unfolding more_enumerators
enumerators-more ks left so ts = refl

pub enumerators-less : (ks : List Known) (left : ℕ) (so : List trees.Enumerator) (ts : List Lexeme) → (left ≡ 0 → ⊥) → run (more_enumerators ks left so) ts ≡ run (next_step ks (left - 1) so (front ts)) ts
enumerators-less ks left so ts h = ap (λ n. run (more_enumerators ks n so) ts) (pred left h) ∙ enumerators-more ks (left - 1) so ts

pub enumerators-are : (ks : List Known) (ts : List Lexeme) → run (reads.enumerators ks) ts ≡ carry (run (expects is_left_brace) ts) (λ o rest. carry (run (reads.enumerator ks) rest) (λ e rest. run (more_enumerators ks 1024 (e ∷ [])) rest))
unfolding reads.enumerators
enumerators-are ks ts = refl

pub enumeration-is : (ks : List Known) (ts : List Lexeme) → run (enumeration ks) ts ≡ run (cond (is_name (front ts).kind) (Passes (reads.enumerators ks)) (reads.enumerators ks)) ts
unfolding enumeration
enumeration-is ks ts = refl

pub enumerators-snoc : (es : List code.Enumerator) (e : code.Enumerator) → map enumerator (es ++ e ∷ []) ≡ map enumerator es ++ enumerator e ∷ []
enumerators-snoc [] e = refl
enumerators-snoc (x ∷ es) e = ap (λ r. enumerator x ∷ r) (enumerators-snoc es e)

pub lists-snoc : (ls : List (Vec code.Enumerator Global)) (l : Vec code.Enumerator Global) → map enumerators (ls ++ l ∷ []) ≡ map enumerators ls ++ enumerators l ∷ []
lists-snoc [] l = refl
lists-snoc (x ∷ ls) l = ap (λ r. enumerators x ∷ r) (lists-snoc ls l)

pub aliases-snoc : (ds : List declarations.Declaration) (d : declarations.Declaration) → map declaration (ds ++ d ∷ []) ≡ map declaration ds ++ declaration d ∷ []
aliases-snoc [] d = refl
aliases-snoc (x ∷ ds) d = ap (λ r. declaration x ∷ r) (aliases-snoc ds d)

pub known-snoc : (ks : List words.Known) (k : words.Known) → map known (ks ++ k ∷ []) ≡ map known ks ++ known k ∷ []
known-snoc [] k = refl
known-snoc (x ∷ ks) k = ap (λ r. known x ∷ r) (known-snoc ks k)

pub functions-snoc : (fs : List (Header × Vec Stmt Global)) (f : Header × Vec Stmt Global) → map function (fs ++ f ∷ []) ≡ map function fs ++ function f ∷ []
functions-snoc [] f = refl
functions-snoc (x ∷ fs) f = ap (λ r. function x ∷ r) (functions-snoc fs f)

pub ruleset front_steps = (stops-carry, type_named-is, value-is, enumerator-is, enumerators-none, enumerators-less, enumerators-are, enumeration-is, enumerators-snoc, lists-snoc, aliases-snoc, known-snoc, functions-snoc)
