-- Two tokens that become one (C99 6.10.3.3).
use Rattle.std.specs.Prelude.{ℕ, ◌+◌, List, ◌++◌, length, Bool, false, cond, nat_le, Option, Some, None}
use Rattle.semantics.specs.Core.{Site}
use Rattle.lines.specs.Identifiers.{all_word_bytes}
use Rattle.opencl_tokens.specs.Tokens.{TokenKind, Token, Name, Number}
use Rattle.opencl_macros.specs.Expansion.{Fed, Word}

-- a token of two has 255 bytes at most (ours)
abbrev pub are_short : (front back : List ℕ) → Bool
are_short front back = nat_le (length front + length back) 255

abbrev pub longer_name : (front back : List ℕ) → Option TokenKind
longer_name front back = cond (are_short front back) (Some (Name (front ++ back))) None

abbrev pub longer_number : (front back : List ℕ) → Option TokenKind
longer_number front back = cond (are_short front back) (Some (Number (front ++ back))) None

-- a name goes on with letters and digits (6.4.2.1), so not with a number that has a point or a sign
abbrev pub behind_name : (name : List ℕ) → TokenKind → Option TokenKind
behind_name name (Name back) = longer_name name back
behind_name name (Number back) = cond (all_word_bytes back) (longer_name name back) None
behind_name name kind = None

-- a number goes on with names and numbers (6.4.8)
abbrev pub behind_number : (number : List ℕ) → TokenKind → Option TokenKind
behind_number number (Name back) = longer_number number back
behind_number number (Number back) = longer_number number back
behind_number number kind = None

-- the token that the bytes of two are (6.10.3.3p3); those of signs, characters and strings are left out (ours)
abbrev pub joined_kind : (front back : TokenKind) → Option TokenKind
joined_kind (Name name) back = behind_name name back
joined_kind (Number number) back = behind_number number back
joined_kind front back = None

abbrev pub joined_word : Site → Token → Option TokenKind → Option Fed
joined_word site front None = None
joined_word site front (Some kind) =
    Some (Word (record { kind = kind; site = site; begins_line = false; is_spaced = front.is_spaced }) false)

-- two tokens are one, at the place of the use
abbrev pub joined : Site → (front back : Fed) → Option Fed
joined site (Word front is_front_kept) (Word back is_back_kept) = joined_word site front (joined_kind front.kind back.kind)
joined site front back = None
