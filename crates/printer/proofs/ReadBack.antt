-- A kernel that was read is read back of its canonical text, positions aside.
use Rattle.std.proofs.Common.{◌≡◌, ◌≤◌, ℕ, List, [], ◌∷◌, length, map, Ok, Err, refl, ap, sym, subst, ◌∙◌, arith}
use Rattle.semantics.specs.Launch as launch
use Rattle.texts.specs.Bare.{bare_kernel}
use Rattle.texts.specs.Brackets.{AllOpenStatements}
use Rattle.texts.specs.Canonical.{canonical}
use Rattle.texts.specs.CanonicalTokens.{IsPrintableKernel, kernel_tokens}
use Rattle.types.specs.Elaboration.{elaborate}
use Rattle.texts.specs.KernelGrammar.{IsKernel}
use Rattle.texts.specs.KernelLimits.{IsWithinLimits}
use Rattle.texts.specs.Lexemes.{lexemes}
use Rattle.types.specs.Scope.{Devices}
use Rattle.texts.specs.Spelling.{AreNumbered}
use Rattle.texts.specs.Surface as surface
use Rattle.texts.specs.Tokens.{Token, Lexed, tokens}
use Rattle.types.specs.TypeFaults.{Checked}
use Rattle.texts.proofs.CanonicalKernel.{kernel_related}
use Rattle.texts.proofs.CanonicalStatements.{lex_kernel}
use Rattle.texts.proofs.CanonicalText.{text_read, tokens_read_of}
use Rattle.texts.proofs.Reading.{tokens_read}
use Rattle.kernel_names.specs.NameMap.{names_of}
use Rattle.parser.proofs.UniqueKernels.{kernel-unique}
use Rattle.reading.specs.Kernels.{Kernel, Source, text_for, Read, read}
use Rattle.reading.proofs.Grammatical.{read-sound, read-complete, read-tree}
use Rattle.printer.specs.Alike.{AreAlike, IsTextAtAnyLength}
use Rattle.printer.specs.BareCore.{bare_core, bare_checked}
use Rattle.printer.proofs.BareLimits.{within-on, within-back}
use Rattle.printer.proofs.BareStatements.{bare-elaborate}
use Rattle.printer.proofs.BareTexts.{canonical-bare}
use Rattle.printer.proofs.NamedTokens.{lexemes-printable}
use Rattle.printer.proofs.PrintableTrees.{tree-printable}
use Rattle.printer.proofs.Rooms.{statements-open}

-- what is read can be printed
pub read-printable : (s : Source) (k : Kernel) → read s ≡ Ok k → IsPrintableKernel k.tree
read-printable s k h = let t = read-sound s k h in tree-printable t.in_grammar (lexemes-printable s.bytes t.tokens t.are_tokens) t.within_limits

pub read-numbered : (s : Source) (k : Kernel) → read s ≡ Ok k → AreNumbered 1 k.tree.body
read-numbered s k h = (read-tree s k h).numbers

pub read-opens : (s : Source) (k : Kernel) → read s ≡ Ok k → AllOpenStatements 63 k.tree.body
read-opens s k h = statements-open k.tree.body 1 63 (omega arith) (read-sound s k h).within_limits.0

-- trees that are the same but for positions
within-alike : (k l : surface.Kernel) → bare_kernel l ≡ bare_kernel k → IsWithinLimits k → IsWithinLimits l
within-alike k l e h = within-back l (subst IsWithinLimits (sym e) (within-on k h))

elaborated-alike : (d : Devices) (k l : surface.Kernel) → bare_kernel l ≡ bare_kernel k → bare_checked bare_core (elaborate d l) ≡ bare_checked bare_core (elaborate d k)
elaborated-alike d k l e = sym (bare-elaborate d l) ∙ ap (elaborate d) e ∙ bare-elaborate d k

core-or : launch.Kernel → Checked launch.Kernel → launch.Kernel
core-or d (Ok k) = k
core-or d (Err e) = d

same-core : (a b : launch.Kernel) (c : Checked launch.Kernel) → c ≡ Ok a → c ≡ Ok b → a ≡ b
unfolding core-or
same-core a b c h g = ap (core-or a) (sym h ∙ g)

core-back : (c : Checked launch.Kernel) (k : launch.Kernel) → bare_checked bare_core c ≡ Ok k → (core : launch.Kernel) × (c ≡ Ok core) × (bare_core core ≡ k)
core-back (Ok core) k h = (core, refl, same-core (bare_core core) k (Ok (bare_core core)) refl h)
core-back (Err e) k h = cc

typed-alike : (d : Devices) (k l : surface.Kernel) (core : launch.Kernel) → bare_kernel l ≡ bare_kernel k → elaborate d k ≡ Ok core → (other : launch.Kernel) × (elaborate d l ≡ Ok other) × (bare_core other ≡ bare_core core)
typed-alike d k l core e h = core-back (elaborate d l) (bare_core core) (elaborated-alike d k l e ∙ ap (bare_checked bare_core) h)

pub texts-alike : (k l : surface.Kernel) → bare_kernel k ≡ bare_kernel l → canonical k ≡ canonical l
texts-alike k l e = sym (canonical-bare k) ∙ ap canonical e ∙ canonical-bare l

-- the tree of the tokens of a canonical text
kinds-kept : (ts : List Token) → map (λ t. t.kind) (lexemes ts) ≡ map (λ t. t.kind) ts
kinds-kept [] = refl
kinds-kept (t ∷ ts) = ap (λ ks. t.kind ∷ ks) (kinds-kept ts)

tree-of : (s : Source) (k : Kernel) → read s ≡ Ok k → (ts : List Token) → map (λ t. t.kind) ts ≡ kernel_tokens k.tree →
    (tree : surface.Kernel) × IsKernel 64 (lexemes ts) tree × (bare_kernel tree ≡ bare_kernel k.tree)
tree-of s k h ts e = kernel_related k.tree 61 (lexemes ts) (read-printable s k h) (read-numbered s k h) (read-opens s k h) (kinds-kept ts ∙ e)

said : (s : Source) (k : Kernel) → read s ≡ Ok k → (ts : List Token) → map (λ t. t.kind) ts ≡ kernel_tokens k.tree →
    (l : Kernel) × IsKernel 64 (lexemes ts) l.tree × IsWithinLimits l.tree × (elaborate s.devices l.tree ≡ Ok l.core) × (l.names ≡ names_of l.tree) × AreAlike l k
said s k h ts e =
    let t = read-sound s k h in
    let r = tree-of s k h ts e in
    let c = typed-alike s.devices k.tree r.0 k.core r.2 t.is_typed in
    (record { tree = r.0; core = c.0; names = names_of r.0 }, r.1, within-alike k.tree r.0 r.2 t.within_limits, c.1, refl, record { tree = r.2; core = c.2 })

pub read-says : (s : Source) (k : Kernel) → read s ≡ Ok k → (l : Kernel) × IsTextAtAnyLength (text_for s.devices (canonical k.tree)) l × AreAlike l k
read-says s k h =
    let r = text_read k.tree (read-printable s k h) in
    let m = said s k h r.0 r.2 in
    (m.0, record { tokens = r.0; are_tokens = r.1; in_grammar = m.1; within_limits = m.2; is_typed = m.3; is_named = m.4 }, m.5)

pub read-back : (s : Source) (k : Kernel) → read s ≡ Ok k → length (canonical k.tree) ≤ 65536 → (l : Kernel) × (read (text_for s.devices (canonical k.tree)) ≡ Ok l) × AreAlike l k
read-back s k h n =
    let r = tokens_read_of k.tree (read-printable s k h) n in
    let m = said s k h r.0 r.2 in
    (m.0, read-complete (text_for s.devices (canonical k.tree)) m.0 (record { tokens = r.0; are_tokens = r.1; in_grammar = m.1; within_limits = m.2; is_typed = m.3; is_named = m.4 }), m.5)

-- what is read of a canonical text
kernel-or : Kernel → Read → Kernel
kernel-or d (Ok k) = k
kernel-or d (Err e) = d

same-kernel : (k l : Kernel) (r : Read) → r ≡ Ok k → r ≡ Ok l → k ≡ l
unfolding kernel-or
same-kernel k l r h g = ap (kernel-or k) (sym h ∙ g)

pub read-alike : (s : Source) (k l : Kernel) → read s ≡ Ok k → read (text_for s.devices (canonical k.tree)) ≡ Ok l → AreAlike l k
read-alike s k l h g =
    let t = read-sound (text_for s.devices (canonical k.tree)) l g in
    let r = read-back s k h (tokens_read (canonical k.tree) t.tokens t.are_tokens).0 in
    subst (λ x. AreAlike x k) (same-kernel r.0 l (read (text_for s.devices (canonical k.tree))) r.1 g) r.2

pub printed-again : (s : Source) (k l : Kernel) → read s ≡ Ok k → read (text_for s.devices (canonical k.tree)) ≡ Ok l → canonical l.tree ≡ canonical k.tree
printed-again s k l h g = texts-alike l.tree k.tree (read-alike s k l h g).tree

-- one canonical text
tokens-or : List Token → Lexed → List Token
tokens-or d (Ok ts) = ts
tokens-or d (Err e) = d

same-tokens : (ts us : List Token) (r : Lexed) → r ≡ Ok ts → r ≡ Ok us → ts ≡ us
unfolding tokens-or
same-tokens ts us r h g = ap (tokens-or ts) (sym h ∙ g)

one-tree : (a b : Source) (k l : Kernel) → read a ≡ Ok k → read b ≡ Ok l → canonical k.tree ≡ canonical l.tree → bare_kernel k.tree ≡ bare_kernel l.tree
one-tree a b k l h g e =
    let p = (lex_kernel k.tree (read-printable a k h)).at_once (canonical k.tree) 0 in
    let q = (lex_kernel l.tree (read-printable b l g)).at_once (canonical l.tree) 0 in
    let same = same-tokens p.0 q.0 (tokens (canonical k.tree) 0 0 (canonical k.tree)) p.1 (ap (λ text. tokens text 0 0 text) e ∙ q.1) in
    let r = tree-of a k h p.0 p.2 in
    let m = tree-of b l g p.0 (ap (map (λ t. t.kind)) same ∙ q.2) in
    sym r.2 ∙ ap bare_kernel (kernel-unique (lexemes p.0) r.0 m.0 64 64 r.1 m.1) ∙ m.2

pub one-kernel : (d : Devices) (a b : List ℕ) (k l : Kernel) → read (text_for d a) ≡ Ok k → read (text_for d b) ≡ Ok l → canonical k.tree ≡ canonical l.tree → AreAlike k l
one-kernel d a b k l h g e =
    let same = one-tree (text_for d a) (text_for d b) k l h g e in
    record {
      tree = same;
      core = same-core (bare_core k.core) (bare_core l.core) (bare_checked bare_core (elaborate d k.tree)) (ap (bare_checked bare_core) (read-sound (text_for d a) k h).is_typed)
          (elaborated-alike d l.tree k.tree same ∙ ap (bare_checked bare_core) (read-sound (text_for d b) l g).is_typed);
    }
