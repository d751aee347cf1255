-- A kernel, part by part.
use Rattle.std.proofs.Common.{◌≡◌, ℕ, List, Bool, refl}
use Rattle.semantics.specs.Core.{Site}
use Rattle.semantics.specs.Launch.{Three}
use Rattle.texts.specs.Lexemes.{Lexeme}
use Rattle.texts.specs.Tokens.{TokenKind}
use Rattle.texts.specs.Surface.{Statements, Parameter, Kernel}
use Rattle.parser.specs.Reader.{Reader, Attempt, Took, Refused, Gives, Then, carry, run}
use Rattle.parser.specs.Expressions.{expects, is_left_parenthesis, is_right_parenthesis}
use Rattle.parser.specs.Statements.{is_left_brace, name_at, takes, block_reader}
use Rattle.parser.specs.Kernels.{is_kernel, is_attribute, is_void, is_required_size, parameters_reader, sizes_reader, attribute_reader, ended, kernel_reader}
use Rattle.parser.proofs.Steps.{stops-carry}
use Rattle.parser.specs.Pieces.{attribute_opening, attribute_name, attribute_end, head_reader, body_reader}

two : {A B C : Type 0} → (o : Attempt A) (f : A → List Lexeme → Attempt B) (g : B → List Lexeme → Attempt C) → carry o (λ a rest. carry (f a rest) g) ≡ carry (carry o f) g
two (Took a rest) f g = refl
two (Refused fault rest) f g = refl

three : {A B C D : Type 0} → (o : Attempt A) (f : A → List Lexeme → Attempt B) (g : B → List Lexeme → Attempt C) (h : C → List Lexeme → Attempt D) → carry o (λ a rest. carry (f a rest) (λ b rest. carry (g b rest) h)) ≡ carry (carry o (λ a rest. carry (f a rest) g)) h
three (Took a rest) f g h = two (f a rest) g h
three (Refused fault rest) f g h = refl

over : {A B : Type 0} → (a : A) (sign : Attempt Site) (next : A → List Lexeme → Attempt B) → carry sign (λ s rest. next a rest) ≡ carry (carry sign (λ s rest. Took a rest)) next
over a (Took s rest) next = refl
over a (Refused fault rest) next = refl

over-name : {B : Type 0} → (o : Attempt (List ℕ × Site)) (next : List ℕ × Site → List Lexeme → Attempt B) → carry o (λ x rest. carry (run (expects is_left_parenthesis) rest) (λ s rest. next x rest)) ≡ carry (carry o (λ x rest. carry (run (expects is_left_parenthesis) rest) (λ s rest. Took x rest))) next
over-name (Took x rest) next = over x (run (expects is_left_parenthesis) rest) next
over-name (Refused fault rest) next = refl

over-void : {B : Type 0} → (o : Attempt Site) (next : List ℕ × Site → List Lexeme → Attempt B) → carry o (λ a rest. carry (run (takes name_at) rest) (λ x rest. carry (run (expects is_left_parenthesis) rest) (λ s rest. next x rest))) ≡ carry (carry o (λ a rest. carry (run (takes name_at) rest) (λ x rest. carry (run (expects is_left_parenthesis) rest) (λ s rest. Took x rest)))) next
over-void (Took a rest) next = over-name (run (takes name_at) rest) next
over-void (Refused fault rest) next = refl

passed : {A : Type 0} → (a b c : TokenKind → Bool) (next : Reader A) (ts : List Lexeme) → run (Then (expects a) (λ x. Then (expects b) (λ y. Then (expects c) (λ z. next)))) ts ≡ carry (run (Then (expects a) (λ x. Then (expects b) (λ y. expects c))) ts) (λ z rest. run next rest)
passed a b c next ts = three (run (expects a) ts) (λ x rest. run (expects b) rest) (λ y rest. run (expects c) rest) (λ z rest. run next rest)

unfoldable pub sized : Three ℕ → Reader (Three ℕ)
sized sizes = Then (expects is_right_parenthesis) (λ a. Then (expects is_right_parenthesis) (λ b. Then (expects is_right_parenthesis) (λ c. Gives sizes)))

unfoldable pub sizes : Reader (Three ℕ)
sizes = Then sizes_reader (λ sizes. sized sizes)

unfoldable pub opened : Reader (Three ℕ)
opened = Then (expects is_left_parenthesis) (λ a. Then (expects is_required_size) (λ b. Then (expects is_left_parenthesis) (λ c. sizes)))

pub attribute-opens : (ts : List Lexeme) → run attribute_reader ts ≡ carry (run attribute_opening ts) (λ s rest. run opened rest)
unfolding attribute_reader attribute_opening opened sizes sized
attribute-opens ts = passed is_kernel is_attribute is_left_parenthesis opened ts

pub attribute-named : (ts : List Lexeme) → run opened ts ≡ carry (run attribute_name ts) (λ s rest. run sizes rest)
unfolding attribute_name opened
attribute-named ts = passed is_left_parenthesis is_required_size is_left_parenthesis sizes ts

pub attribute-sized : (ts : List Lexeme) → run sizes ts ≡ carry (run sizes_reader ts) (λ sizes rest. run (sized sizes) rest)
unfolding sizes
attribute-sized ts = refl

pub attribute-ends : (sizes : Three ℕ) (ts : List Lexeme) → run (sized sizes) ts ≡ carry (run attribute_end ts) (λ s rest. Took sizes rest)
unfolding attribute_end sized
attribute-ends sizes ts = passed is_right_parenthesis is_right_parenthesis is_right_parenthesis (Gives sizes) ts

unfoldable pub bodied : Three ℕ → List ℕ × Site → List Parameter → Reader Kernel
bodied sizes name ps = Then (expects is_left_brace) (λ a. Then (block_reader 32 63 1) (λ body. Then (ended body.0) (λ body. Gives (record { name = name.0; name_site = name.1; sizes = sizes; parameters = ps; body = body }))))

unfoldable pub named : Three ℕ → List ℕ × Site → Reader Kernel
named sizes name = Then parameters_reader (λ ps. bodied sizes name ps)

unfoldable pub headed : Three ℕ → Reader Kernel
headed sizes = Then (expects is_void) (λ a. Then (takes name_at) (λ x. Then (expects is_left_parenthesis) (λ b. named sizes x)))

pub kernel-is : (ts : List Lexeme) → run kernel_reader ts ≡ carry (run attribute_reader ts) (λ sizes rest. run (headed sizes) rest)
unfolding kernel_reader headed named bodied
kernel-is ts = refl

pub kernel-headed : (sizes : Three ℕ) (ts : List Lexeme) → run (headed sizes) ts ≡ carry (run head_reader ts) (λ name rest. run (named sizes name) rest)
unfolding headed head_reader
kernel-headed sizes ts = over-void (run (expects is_void) ts) (λ name rest. run (named sizes name) rest)

pub kernel-named : (sizes : Three ℕ) (name : List ℕ × Site) (ts : List Lexeme) → run (named sizes name) ts ≡ carry (run parameters_reader ts) (λ ps rest. run (bodied sizes name ps) rest)
unfolding named
kernel-named sizes name ts = refl

pub kernel-bodied : (sizes : Three ℕ) (name : List ℕ × Site) (ps : List Parameter) (ts : List Lexeme) → run (bodied sizes name ps) ts ≡ carry (run body_reader ts) (λ body rest. Took (record { name = name.0; name_site = name.1; sizes = sizes; parameters = ps; body = body }) rest)
unfolding bodied body_reader
kernel-bodied sizes name ps ts = three (run (expects is_left_brace) ts) (λ a rest. run (block_reader 32 63 1) rest) (λ body rest. run (ended body.0) rest) (λ body rest. Took (record { name = name.0; name_site = name.1; sizes = sizes; parameters = ps; body = body }) rest)

pub ruleset attribute_steps = (stops-carry, attribute-opens, attribute-named, attribute-sized, attribute-ends)

pub ruleset kernel_steps = (stops-carry, kernel-is, kernel-headed, kernel-named, kernel-bodied)
