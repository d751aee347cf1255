-- One step of each reader of statements.
use Rattle.std.proofs.Common.{◌≡◌, ℕ, zero, suc, ◌+◌, ◌-◌, List, [], ◌∷◌, ◌++◌, Bool, true, false, cond, ◌&&◌, ◌||◌, Option, None, Some, refl, ap, sym, ◌∙◌, arith}
use Rattle.semantics.specs.Core.{Site}
use Rattle.opencl_tokens.specs.Lexemes.{Lexeme, LexemeKind}
use Rattle.opencl_tree.specs.Tree.{Expression, First, FirstDeclares, Statement, Statements, none, one, Typedef, Declare, Case, Evaluate, Return}
use Rattle.opencl_tree.specs.View.{statement, statements}
use Rattle.opencl_tree.specs.declared.tree.Stmt.{Stmt}
use Rattle.opencl_parser.specs.Faults.{Expected, TooDeep, TooMany, LeftOut, Label}
use Rattle.opencl_parser.specs.Reader.{Reader, Attempt, Took, Refused, Gives, Fails, Looks, Passes, Then, carry, front, behind, run, expects}
use Rattle.opencl_parser.specs.Signs.{is_left_parenthesis, is_right_parenthesis, is_colon}
use Rattle.opencl_parser.specs.TypeNames.{Known}
use Rattle.opencl_parser.specs.Expressions.{level}
use Rattle.opencl_parser.specs.Declarations.{is_right_brace, starts_declaration, declaration, alias}
use Rattle.opencl_parser.specs.Statements.{is_semicolon, is_while, tested, optional, first_declares, first_of, first_reader, head_reader, until, returned, ended, is_name, evaluated, plain, labelled, case_reader, alias_reader, declaration_reader}
use Rattle.opencl_parser.proofs.Steps.{pred, stops-carry}

pub tested-is : (ks : List Known) (depth : ℕ) (ts : List Lexeme) → run (tested ks depth) ts ≡ carry (run (expects is_left_parenthesis) ts) (λ opening rest. carry (run (level ks depth 13) rest) (λ e rest. carry (run (expects is_right_parenthesis) rest) (λ closing rest. Took e rest)))
unfolding tested
tested-is ks depth ts = refl

pub optional-is : (ks : List Known) (depth : ℕ) (is_due : LexemeKind → Bool) (ts : List Lexeme) → run (optional ks depth is_due) ts ≡ run (cond (is_due (front ts).kind) (Passes (Gives None)) (Then (level ks depth 13) (λ e. Then (expects is_due) (λ sign. Gives (Some e))))) ts
unfolding optional
optional-is ks depth is_due ts = refl

pub first_declares-is : (ks : List Known) (depth n : ℕ) (at : Site) (ts : List Lexeme) → run (first_declares ks depth n at) ts ≡ carry (run (declaration ks depth n at) ts) (λ d rest. carry (run (expects is_semicolon) rest) (λ sign rest. Took (FirstDeclares d) rest))
unfolding first_declares
first_declares-is ks depth n at ts = refl

pub first-is : (ks : List Known) (depth n : ℕ) (ts : List Lexeme) → run (first_reader ks depth n) ts ≡ run (cond (starts_declaration ks (front ts).kind) (first_declares ks depth n (front ts).site) (Then (optional ks depth is_semicolon) (λ e. Gives (first_of e)))) ts
unfolding first_reader
first-is ks depth n ts = refl

pub head-is : (ks : List Known) (depth n : ℕ) (ts : List Lexeme) → run (head_reader ks depth n) ts ≡ carry (run (expects is_left_parenthesis) ts) (λ opening rest. carry (run (first_reader ks depth n) rest) (λ first rest. carry (run (optional ks depth is_semicolon) rest) (λ test rest. carry (run (optional ks depth is_right_parenthesis) rest) (λ update rest. Took (record { first = first; test = test; update = update }) rest))))
unfolding head_reader
head-is ks depth n ts = refl

pub until-is : (ks : List Known) (depth : ℕ) (ts : List Lexeme) → run (until ks depth) ts ≡ carry (run (expects is_while) ts) (λ word rest. carry (run (tested ks depth) rest) (λ e rest. carry (run (expects is_semicolon) rest) (λ sign rest. Took e rest)))
unfolding until
until-is ks depth ts = refl

pub returned-is : (ks : List Known) (depth n : ℕ) (at : Site) (ts : List Lexeme) → run (returned ks depth n at) ts ≡ carry (run (optional ks depth is_semicolon) ts) (λ e rest. Took (Return n at e, n + 1) rest)
unfolding returned
returned-is ks depth n at ts = refl

pub ended-is : (n : ℕ) (s : Statement) (ts : List Lexeme) → run (ended n s) ts ≡ carry (run (expects is_semicolon) ts) (λ sign rest. Took (s, n + 1) rest)
unfolding ended
ended-is n s ts = refl

pub evaluated-is : (ks : List Known) (depth n : ℕ) (at : Site) (ts : List Lexeme) → run (evaluated ks depth n at) ts ≡ carry (run (level ks depth 13) ts) (λ e rest. run (cond (is_colon (front rest).kind && is_name e) (Fails (LeftOut Label)) (ended n (Evaluate n at e))) rest)
unfolding evaluated
evaluated-is ks depth n at ts = refl

pub labelled-is : (ks : List Known) (n : ℕ) (s : Statement) (ts : List Lexeme) → run (labelled ks n s) ts ≡ carry (run (expects is_colon) ts) (λ colon rest. run (cond (is_right_brace (front rest).kind || starts_declaration ks (front rest).kind) (Fails Expected) (Gives (plain (s, n + 1)))) rest)
unfolding labelled
labelled-is ks n s ts = refl

pub case-is : (ks : List Known) (depth n : ℕ) (at : Site) (ts : List Lexeme) → run (case_reader ks depth n at) ts ≡ carry (run (level ks depth 11) ts) (λ e rest. run (labelled ks n (Case n at e)) rest)
unfolding case_reader
case-is ks depth n at ts = refl

pub alias_reader-is : (ks : List Known) (depth n : ℕ) (at : Site) (ts : List Lexeme) → run (alias_reader ks depth n at) ts ≡ carry (run (alias ks depth n at) ts) (λ d rest. carry (run (expects is_semicolon) rest) (λ sign rest. Took (record { statement = Typedef d.0; next = n + 1; made = Some d.1 }) rest))
unfolding alias_reader
alias_reader-is ks depth n at ts = refl

pub declaration_reader-is : (ks : List Known) (depth n : ℕ) (at : Site) (ts : List Lexeme) → run (declaration_reader ks depth n at) ts ≡ carry (run (declaration ks depth n at) ts) (λ d rest. carry (run (expects is_semicolon) rest) (λ sign rest. Took (plain (Declare d, n + 1)) rest))
unfolding declaration_reader
declaration_reader-is ks depth n at ts = refl

pub ruleset part_steps = (stops-carry, tested-is, optional-is, first_declares-is, first-is, head-is, until-is, returned-is, ended-is, evaluated-is, labelled-is, case-is, alias_reader-is, declaration_reader-is)
