-- The tokens of a kernel's canonical text, as a text has them.
use Rattle.std.proofs.Common.{◌≡◌, ◌≤◌, ℕ, suc, List, [], ◌∷◌, length, map, cond, nat_lt, false, Ok, Err, refl, ap, ◌∙◌, arith}
use Rattle.std.proofs.lemmas.Bool.Decides.{nat_tests}
use Rattle.texts.specs.Faults.{TextTooLong}
use Rattle.texts.specs.Reading.{Reads}
use Rattle.texts.specs.Tokens.{Token, tokens, tokens_of, first_site}
use Rattle.texts.specs.Surface.{Kernel}
use Rattle.texts.specs.Canonical.{canonical}
use Rattle.texts.specs.CanonicalTokens.{IsPrintableKernel, kernel_tokens}
use Rattle.texts.specs.Bare.{bare_kernel}
use Rattle.texts.specs.Brackets.{AllOpenStatements}
use Rattle.texts.specs.KernelGrammar.{IsKernel}
use Rattle.texts.specs.Lexemes.{lexemes}
use Rattle.texts.specs.Spelling.{AreNumbered}
use Rattle.texts.proofs.Reading.{reads}
use Rattle.texts.proofs.CanonicalKernel.{kernel_related}
use Rattle.texts.proofs.CanonicalStatements.{lex_kernel}

not_longer : (n : ℕ) → n ≤ 65536 → nat_lt 65536 n ≡ false
not_longer n h = grind (arith, nat_tests)

pub text_read : (k : Kernel) → IsPrintableKernel k → (ts : List Token) × Reads (canonical k) 0 (canonical k) ts × (map (λ t. t.kind) ts ≡ kernel_tokens k)
text_read k h =
    let r = (lex_kernel k h).at_once (canonical k) 0 in
    (r.0, reads (length (canonical k)) (canonical k) 0 (canonical k) r.0 (omega arith) r.1, r.2)

pub tokens_read_of : (k : Kernel) → IsPrintableKernel k → length (canonical k) ≤ 65536 → (ts : List Token) × (tokens_of (canonical k) ≡ Ok ts) × (map (λ t. t.kind) ts ≡ kernel_tokens k)
tokens_read_of k h l =
    let r = (lex_kernel k h).at_once (canonical k) 0 in
    (r.0, ap (λ t. cond t (Err (TextTooLong, first_site)) (tokens (canonical k) 0 0 (canonical k))) (not_longer (length (canonical k)) l) ∙ r.1, r.2)

kinds_kept : (ts : List Token) → map (λ t. t.kind) (lexemes ts) ≡ map (λ t. t.kind) ts
kinds_kept [] = refl
kinds_kept (t ∷ ts) = ap (λ ks. t.kind ∷ ks) (kinds_kept ts)

pub text_stands_for : (k : Kernel) (room : ℕ) → IsPrintableKernel k → AreNumbered 1 k.body → AllOpenStatements (suc (suc room)) k.body →
    (ts : List Token) × Reads (canonical k) 0 (canonical k) ts × ((tree : Kernel) × IsKernel (suc (suc (suc room))) (lexemes ts) tree × (bare_kernel tree ≡ bare_kernel k))
text_stands_for k room h m o =
    let r = text_read k h in
    (r.0, r.1, kernel_related k room (lexemes r.0) h m o (kinds_kept r.0 ∙ r.2))
