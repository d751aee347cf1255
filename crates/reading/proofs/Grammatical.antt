-- What is read of bytes is what the grammar has.
use Rattle.std.proofs.Common.{◌≡◌, ℕ, Bool, true, false, Ok, Err, List, refl, ap, sym, ◌∙◌, subst}
use Rattle.std.proofs.lemmas.Bool.{false≢true}
use Rattle.semantics.specs.Launch as launch
use Rattle.texts.specs.Tokens.{Lexed, Token, tokens_of}
use Rattle.texts.specs.Lexemes.{lexemes}
use Rattle.texts.specs.Surface as surface
use Rattle.types.specs.TypeFaults.{Checked}
use Rattle.types.specs.Scope.{Devices}
use Rattle.types.specs.Elaboration.{elaborate}
use Rattle.texts.specs.Spelling.{IsTextTree}
use Rattle.texts.proofs.Endings.{lexemes_ended}
use Rattle.texts.proofs.Spellings.{lexemes_spelt}
use Rattle.parser.specs.Parsed.{Parsed, parsed}
use Rattle.parser.proofs.Exact.{parsed-sound}
use Rattle.parser.proofs.TextTrees.{text-tree}
use Rattle.parser.proofs.Truth.{parsed-complete}
use Rattle.kernel_names.specs.NameMap.{NameMap}
use Rattle.reading.specs.Kernels.{Kernel, Source, Read, of_types, of_tree, of_tokens, read}
use Rattle.reading.specs.Texts.{IsTextOf}

is-ok : Read → Bool
is-ok (Ok k) = true
is-ok (Err e) = false

or-else : Kernel → Read → Kernel
or-else d (Ok k) = k
or-else d (Err e) = d

refused : (r : Read) (k : Kernel) → is-ok r ≡ false → r ≡ Ok k → ⊥
unfolding is-ok
refused r k n h = false≢true (sym n ∙ ap is-ok h)

typed : (source : Source) (k : Kernel) (tokens : List Token) (tree : surface.Kernel) (c : Checked launch.Kernel) → tokens_of source.bytes ≡ Ok tokens → parsed (lexemes tokens) ≡ Ok tree → elaborate source.devices tree ≡ c → of_types tree c ≡ Ok k → IsTextOf source k
unfolding is-ok or-else
typed source k tokens tree (Err e) q p t h = absurd (refused (of_types tree (Err e)) k refl h)
typed source k tokens tree (Ok core) q p t h =
    let g = parsed-sound (lexemes tokens) tree (lexemes_ended source.bytes tokens q).0 p in
    subst (IsTextOf source) (ap (or-else k) h) (record { tokens = tokens; are_tokens = q; in_grammar = g.0; within_limits = g.1; is_typed = t; is_named = refl })

treed : (source : Source) (k : Kernel) (tokens : List Token) (p : Parsed) → tokens_of source.bytes ≡ Ok tokens → parsed (lexemes tokens) ≡ p → of_tree source.devices p ≡ Ok k → IsTextOf source k
unfolding is-ok
treed source k tokens (Err e) q p h = absurd (refused (of_tree source.devices (Err e)) k refl h)
treed source k tokens (Ok tree) q p h = typed source k tokens tree (elaborate source.devices tree) q p refl h

pub read-sound : (source : Source) (k : Kernel) → read source ≡ Ok k → IsTextOf source k
unfolding read is-ok
read-sound source k h = by (tokens_of source.bytes) refl h
  where
    by : (l : Lexed) → tokens_of source.bytes ≡ l → of_tokens source.devices l ≡ Ok k → IsTextOf source k
    by (Err e) q h = absurd (refused (of_tokens source.devices (Err e)) k refl h)
    by (Ok tokens) q h = treed source k tokens (parsed (lexemes tokens)) q refl h

-- a kernel with other names
abbrev named : Kernel → NameMap → Read
named k m = Ok (record { tree = k.tree; core = k.core; names = m })

pub read-complete : (source : Source) (k : Kernel) → IsTextOf source k → read source ≡ Ok k
unfolding read
read-complete source k t =
    ap (of_tokens source.devices) t.are_tokens ∙ ap (of_tree source.devices) (parsed-complete (lexemes t.tokens) k.tree (lexemes_ended source.bytes t.tokens t.are_tokens).1 t.in_grammar t.within_limits) ∙ ap (of_types k.tree) t.is_typed ∙ ap (named k) (sym t.is_named)

pub read-tree : (source : Source) (k : Kernel) → read source ≡ Ok k → IsTextTree k.tree
read-tree source k h = let t = read-sound source k h in text-tree 64 (lexemes t.tokens) k.tree (lexemes_spelt source.bytes t.tokens t.are_tokens) t.in_grammar
