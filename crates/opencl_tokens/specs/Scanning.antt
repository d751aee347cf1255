-- The tokens of joined lines: one definition reads every list of bytes, as tokens or as the first fault in it.
use Rattle.std.specs.Prelude.{ℕ, zero, suc, ◌+◌, ◌-◌, List, [], ◌∷◌, Bool, true, false, Ok, Err, slice_index_or}
use Rattle.semantics.specs.Core.{Site}
use Rattle.texts.specs.Tokens.{first_site}
use Rattle.opencl_tokens.specs.Faults.{Answered, in_front}
use Rattle.opencl_tokens.specs.Tokens.{TokenKind, End, Token}
use Rattle.opencl_tokens.specs.Pieces.{Piece, Blank, Line, Has, Bad, piece}
use Rattle.opencl_tokens.specs.Joining.{Joined}

-- what stands before a token: no token of its line, and white space
pub record Lead : Type 0 where
  pub begins_line : Bool
  pub is_spaced : Bool

abbrev pub lead : (begins_line is_spaced : Bool) → Lead
lead begins_line is_spaced = record { begins_line = begins_line; is_spaced = is_spaced }

-- the place of a byte
abbrev pub site_at : List Site → (at : ℕ) → Site
site_at sites at = slice_index_or sites at first_site

abbrev pub token_of : TokenKind → Site → Lead → Token
token_of kind site before = record { kind = kind; site = site; begins_line = before.begins_line; is_spaced = before.is_spaced }

-- a piece, and then what `go` reads behind it, after so many more bytes are passed over; a comment begins no line, also where it goes on
-- over several (C99 5.1.1.2p1, phase 3)
abbrev pub next : Piece → Site → Lead → (Lead → ℕ → Answered Token) → Answered Token
next (Blank count) site before go = go (lead before.begins_line true) (count - 1)
next Line site before go = go (lead true true) 0
next (Has kind count) site before go = in_front (token_of kind site before ∷ []) (go (lead false false) (count - 1))
next (Bad fault) site before go = Err (fault, site)

-- piece after piece: `skip` bytes belong to the piece before, and the bytes left begin at the offset `at`
abbrev pub tokens : (sites : List Site) (before : Lead) (skip at : ℕ) → List ℕ → Answered Token
tokens sites before skip at [] = Ok (token_of End (site_at sites at) before ∷ [])
tokens sites before zero at (b ∷ bytes) =
    next (piece b (b ∷ bytes)) (site_at sites at) before (λ behind skip. tokens sites behind skip (at + 1) bytes)
tokens sites before (suc skip) at (b ∷ bytes) = tokens sites before skip (at + 1) bytes

-- the tokens of joined lines, the last one `End`
abbrev pub tokens_of : Joined → Answered Token
tokens_of joined = tokens joined.sites (lead true false) 0 0 joined.bytes
