-- Tables of forms (ours): each form once, numbered from 1.
use Rattle.std.specs.Prelude.{ℕ, ◌+◌, ◌-◌, List, [], ◌∷◌, ◌++◌, Bool, cond, nat_eq, Option, None, bytes_eq}
use Rattle.std.specs.List.{list_any, position_or_len, slice_get}
use Rattle.linear.specs.Linear.{Form}
use Rattle.certificate_text.specs.Certificate.{Name}
use Rattle.certificate_text.specs.Text.{form_text}

abbrev pub FormTable : Type 0
FormTable = List (Form Name)

-- forms are the same where they are written alike
abbrev pub is_same_form : (left right : Form Name) → Bool
is_same_form left right = bytes_eq (form_text left) (form_text right)

abbrev pub has_form : FormTable → Form Name → Bool
has_form forms f = list_any (is_same_form f) forms

-- with one form more at the end, where it is not there yet
abbrev pub with_form : FormTable → Form Name → FormTable
with_form forms f = cond (has_form forms f) forms (forms ++ f ∷ [])

-- the number of a form; of one that is not there it is past the last
abbrev pub number_of : FormTable → Form Name → ℕ
number_of forms f = position_or_len (is_same_form f) forms + 1

-- the form of a number
abbrev pub form_at : FormTable → ℕ → Option (Form Name)
form_at forms n = cond (nat_eq n 0) None (slice_get forms (n - 1))
