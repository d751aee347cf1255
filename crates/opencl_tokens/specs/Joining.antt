-- Joined lines: the bytes of a text without what joins lines, each with its place in the file (C99 5.1.1.2p1, phases 1 and 2; the limit
-- and the faults are ours).
use Rattle.std.specs.Prelude.{ℕ, zero, suc, ◌+◌, ◌-◌, List, [], ◌∷◌, ◌++◌, length, drop, cond, nat_eq, nat_lt, Option, Some, None, Result, Ok, Err, codes}
use Rattle.semantics.specs.Core.{Site}
use Rattle.texts.specs.Tokens.{begins_with, is_padding, past, first_site}
use Rattle.opencl_tokens.specs.Faults.{TextFault, BadByte, TextTooLong}

-- the bytes, their places, and behind those the place of the text's end
pub record Joined : Type 0 where
  pub bytes : List ℕ
  pub sites : List Site

abbrev pub Joining : Type 0
Joining = Result Joined (TextFault × Site)

-- the offset behind a line's end, before which there is nothing but what compilers pass over; the bytes begin at the offset `at`
abbrev pub line_end : (at : ℕ) → List ℕ → Option ℕ
line_end at [] = None
line_end at (b ∷ bytes) =
    cond (nat_eq b 10) (Some (at + 1)) (
    cond (begins_with (b ∷ bytes) (13 ∷ 10 ∷ [])) (Some (at + 2)) (
    cond (is_padding b) (line_end (at + 1) bytes) None))

-- what becomes of the byte at the front: it stays, it goes with those behind it, so many in all, or it is a fault
pub data Fate : Type 0 where
  Stays : Fate
  Goes : (count : ℕ) → Fate
  Faulty : Fate

-- a `\` goes with its line's end
abbrev pub joined_line : Option ℕ → Fate
joined_line None = Stays
joined_line (Some count) = Goes count

-- the trigraph for it is read so by some compilers alone
abbrev pub trigraph_line : Option ℕ → Fate
trigraph_line None = Stays
trigraph_line (Some count) = Faulty

-- 92 is `\`, and `??/` its trigraph (5.2.1.1); of a carriage return and a line feed the line feed stays, and a carriage return alone ends
-- a line for some compilers
abbrev pub fate_of : List ℕ → Fate
fate_of bytes =
    cond (begins_with bytes (92 ∷ [])) (joined_line (line_end 1 (drop 1 bytes))) (
    cond (begins_with bytes (codes "??/")) (trigraph_line (line_end 3 (drop 3 bytes))) (
    cond (begins_with bytes (13 ∷ 10 ∷ [])) (Goes 1) (
    cond (begins_with bytes (13 ∷ [])) Faulty Stays)))

-- what was joined before all that follows
abbrev pub behind : (bytes : List ℕ) (sites : List Site) → Joining → Joining
behind bytes sites (Ok joined) = Ok (record { bytes = bytes ++ joined.bytes; sites = sites ++ joined.sites })
behind bytes sites (Err e) = Err e

-- the byte at the front, and then what `go` joins after so many more bytes are passed over
abbrev pub next : Fate → (b : ℕ) (site : Site) → (ℕ → Joining) → Joining
next Stays b site go = behind (b ∷ []) (site ∷ []) (go 0)
next (Goes count) b site go = go (count - 1)
next Faulty b site go = Err (BadByte, site)

-- byte after byte: `skip` bytes go with the one before, and the bytes left begin at `site`
abbrev pub joined : (site : Site) (skip : ℕ) → List ℕ → Joining
joined site skip [] = Ok (record { bytes = []; sites = site ∷ [] })
joined site zero (b ∷ bytes) = next (fate_of (b ∷ bytes)) b site (λ skip. joined (past site b) skip bytes)
joined site (suc skip) (b ∷ bytes) = joined (past site b) skip bytes

-- a text over 1,048,576 bytes is refused before all else
abbrev pub joined_of : List ℕ → Joining
joined_of text = cond (nat_lt 1048576 (length text)) (Err (TextTooLong, first_site)) (joined first_site 0 text)
