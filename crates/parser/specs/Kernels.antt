-- How kernels are read.
use Rattle.std.specs.Prelude.{ℕ, zero, suc, ◌*◌, List, [], ◌∷◌, Bool, true, false, cond, nat_le, ◌&&◌, Option, Some, None, bytes_eq, codes}
use Rattle.semantics.specs.Launch.{Three}
use Rattle.texts.specs.Signs as signs
use Rattle.texts.specs.Reserved as words
use Rattle.texts.specs.Tokens as token
use Rattle.texts.specs.Tokens.{TokenKind}
use Rattle.texts.specs.ParseFaults.{Expected, TooMany}
use Rattle.texts.specs.Surface.{Statements, Parameter, Buffer, Value, Kernel}
use Rattle.parser.specs.Reader.{Reader, Gives, Fails, Looks, Passes, Then}
use Rattle.parser.specs.Expressions.{is_left_parenthesis, is_right_parenthesis, is_comma, expects, kind_at}
use Rattle.parser.specs.Statements.{is_left_brace, name_at, number_at, takes, block_reader}

abbrev pub is_kernel : TokenKind → Bool
is_kernel (token.Word words.Kernel) = true
is_kernel kind = false

abbrev pub is_attribute : TokenKind → Bool
is_attribute (token.Word words.Attribute) = true
is_attribute kind = false

abbrev pub is_void : TokenKind → Bool
is_void (token.Word words.Void) = true
is_void kind = false

abbrev pub is_global : TokenKind → Bool
is_global (token.Word words.Global) = true
is_global kind = false

abbrev pub is_const : TokenKind → Bool
is_const (token.Word words.Const) = true
is_const kind = false

abbrev pub is_star : TokenKind → Bool
is_star (token.Mark signs.Star) = true
is_star kind = false

abbrev pub is_end : TokenKind → Bool
is_end token.End = true
is_end kind = false

abbrev pub is_required_size : TokenKind → Bool
is_required_size (token.Name x) = bytes_eq x (codes "reqd_work_group_size")
is_required_size kind = false

unfoldable pub buffer_reader : (constant : Bool) → Reader Parameter
buffer_reader constant = Then (takes kind_at) (λ kind. Then (expects is_star) (λ star. Then (takes name_at) (λ x. Gives (Buffer constant kind.0 x.1 x.0))))

unfoldable pub value_reader : Reader Parameter
value_reader = Then (takes kind_at) (λ kind. Then (takes name_at) (λ x. Gives (Value kind.0 x.1 x.0)))

unfoldable pub parameter_reader : Reader Parameter
parameter_reader =
    Looks (λ t. cond (is_global t.kind) (Passes (Looks (λ t. cond (is_const t.kind) (Passes (buffer_reader true)) (buffer_reader false)))) value_reader)

abbrev pub one_parameter : (others : Reader (List Parameter)) → Reader (List Parameter)
one_parameter others = Then parameter_reader (λ p. Then others (λ ps. Gives (p ∷ ps)))

unfoldable pub more_parameters : (left : ℕ) → Reader (List Parameter)
more_parameters zero = Fails TooMany
more_parameters (suc left) = Looks (λ t. cond (is_comma t.kind) (Passes (one_parameter (more_parameters left))) (Then (expects is_right_parenthesis) (λ closing. Gives [])))

-- up to and with the `)`; a kernel has at most 80, 16 buffers and 64 others
unfoldable pub parameters_reader : Reader (List Parameter)
parameters_reader = Looks (λ t. cond (is_right_parenthesis t.kind) (Passes (Gives [])) (one_parameter (more_parameters 80)))

-- a local size, 1 to 1,024, also times those before it
abbrev pub size_by : (product : ℕ) → Option ℕ → Reader ℕ
size_by product None = Fails Expected
size_by product (Some n) = cond (nat_le 1 n && nat_le n 1024 && nat_le (product * n) 1024) (Passes (Gives n)) (Fails TooMany)

abbrev pub size_reader : (product : ℕ) → Reader ℕ
size_reader product = Looks (λ t. size_by product (number_at t.kind))

unfoldable pub sizes_reader : Reader (Three ℕ)
sizes_reader =
    Then (size_reader 1) (λ x. Then (expects is_comma) (λ a. Then (size_reader x) (λ y. Then (expects is_comma) (λ b. Then (size_reader (x * y)) (λ z.
    Gives (record { x = x; y = y; z = z }))))))

-- up to `void`
unfoldable pub attribute_reader : Reader (Three ℕ)
attribute_reader =
    Then (expects is_kernel) (λ a. Then (expects is_attribute) (λ b. Then (expects is_left_parenthesis) (λ c. Then (expects is_left_parenthesis) (λ d.
    Then (expects is_required_size) (λ e. Then (expects is_left_parenthesis) (λ f. Then sizes_reader (λ sizes.
    Then (expects is_right_parenthesis) (λ g. Then (expects is_right_parenthesis) (λ h. Then (expects is_right_parenthesis) (λ i. Gives sizes))))))))))

abbrev pub ended : Statements → Reader Statements
ended body = Looks (λ t. cond (is_end t.kind) (Gives body) (Fails Expected))

-- a kernel, and then the end: 64 brackets one inside another, 32 levels of the tree
unfoldable pub kernel_reader : Reader Kernel
kernel_reader =
    Then attribute_reader (λ sizes. Then (expects is_void) (λ a. Then (takes name_at) (λ f. Then (expects is_left_parenthesis) (λ b. Then parameters_reader (λ ps.
    Then (expects is_left_brace) (λ c. Then (block_reader 32 63 1) (λ body. Then (ended body.0) (λ body. Gives (record { name = f.0; name_site = f.1; sizes = sizes; parameters = ps; body = body })))))))))
