-- The words for `clBuildProgram` that the lines `define` of conditions are (OpenCL 1.2, 5.6.4.1). A blank would end a word, so between tokens
-- a comment stands in its place, which is one blank (C99 5.1.1.2), and between quotation marks its octal escape (6.4.4.4).
use Rattle.std.specs.Prelude.{ℕ, ◌+◌, ◌-◌, List, [], ◌∷◌, ◌++◌, codes, length, take, drop, Bool, false, cond, not, ◌||◌, nat_eq, nat_le, Result, Ok, Err}
use Rattle.std.specs.List.{prefix_len}
use Rattle.lines.specs.Bytes.{is_word_byte}
use Rattle.launch_text.specs.HeadReading.{Head}
use Rattle.kernel_reading.specs.Kernels.{head_in}

-- outside of quotation marks 0; within, the mark; behind a backslash there, 256 more
abbrev pub state_behind : (state byte : ℕ) → ℕ
state_behind s b =
    cond (nat_le 256 s) (s - 256) (cond (nat_eq s 0) (cond (nat_eq b 34 || nat_eq b 39) b 0) (cond (nat_eq b s) 0 (cond (nat_eq b 92) (s + 256) s)))

abbrev pub blank_in : (state : ℕ) → List ℕ
blank_in s = cond (nat_eq s 0) (codes "/**/") (92 ∷ codes "040")

abbrev pub spelled_byte : (state byte : ℕ) → List ℕ
spelled_byte s b = cond (nat_eq b 32) (blank_in s) (b ∷ [])

-- behind what was spelled
abbrev pub spelled_behind : (done : List ℕ) (state : ℕ) → List ℕ → List ℕ
spelled_behind done s [] = done
spelled_behind done s (b ∷ bs) = spelled_behind (done ++ spelled_byte s b) (state_behind s b) bs

-- the parameters of a macro, which begin right behind its name: up to the first `)`
abbrev pub is_within : ℕ → Bool
is_within b = not (nat_eq b 41)

abbrev pub parameters_length : List ℕ → ℕ
parameters_length [] = 0
parameters_length (b ∷ bs) = cond (nat_eq b 40) (prefix_len is_within (b ∷ bs)) 0

abbrev pub begins_with : (byte : ℕ) → List ℕ → Bool
begins_with c [] = false
begins_with c (b ∷ bs) = nat_eq b c

abbrev pub without : (byte : ℕ) → List ℕ → List ℕ
without c [] = []
without c (b ∷ bs) = cond (nat_eq b c) bs (b ∷ bs)

abbrev pub closed : (done rest : List ℕ) → List ℕ
closed done rest = cond (begins_with 41 rest) (done ++ 41 ∷ []) done

-- behind the name the parameters, and behind `=` the tokens
abbrev pub value_behind : (done rest : List ℕ) → List ℕ
value_behind done rest =
    spelled_behind (closed (spelled_behind done 0 (take (parameters_length rest) rest)) (drop (parameters_length rest) rest) ++ 61 ∷ []) 0
    (without 32 (without 41 (drop (parameters_length rest) rest)))

abbrev pub or_alone : (done rest : List ℕ) → List ℕ
or_alone done rest = cond (nat_eq (length rest) 0) done (value_behind done rest)

abbrev pub name_length : List ℕ → ℕ
name_length line = prefix_len is_word_byte line

abbrev pub opening : (done : List ℕ) → List ℕ
opening done = done ++ cond (nat_eq (length done) 0) (codes "-D") (codes " -D")

abbrev pub word_behind : (done line : List ℕ) → List ℕ
word_behind done line = or_alone (opening done ++ take (name_length line) line) (drop (name_length line) line)

abbrev pub words_behind : (done : List ℕ) → (lines : List (List ℕ)) → List ℕ
words_behind done [] = done
words_behind done (line ∷ lines) = words_behind (word_behind done line) lines

-- none where the head has a fault
abbrev pub build_words : {F : Type 0} → Result Head F → List ℕ
build_words (Ok h) = words_behind [] h.defines
build_words (Err e) = []

abbrev pub words_of : (conditions : List ℕ) → List ℕ
words_of conditions = build_words (head_in conditions)
