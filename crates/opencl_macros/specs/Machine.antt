-- Macros are expanded step by step (C99 6.10.3.1, 6.10.3.4): what is put in for a use is read again, with all that follows it.
use Rattle.std.specs.Prelude.{ℕ, zero, suc, List, [], ◌∷◌, ◌++◌, Bool, true, false, cond, ◌||◌, bytes_eq, Option, Some, None, Result, Ok, Err, codes}
use Rattle.semantics.specs.Core.{Site}
use Rattle.opencl_tokens.specs.Tokens.{TokenKind, Token, Name}
use Rattle.opencl_macros.specs.Macros.{Macro, Table, look, makes_strings, on}
use Rattle.opencl_macros.specs.Expansion.{Fed, Word, Behind, Active, is_active, ended, opens, Gathered, gathered, fits}
use Rattle.opencl_macros.specs.Bodies.{Filled, Supply, supply, begun, replaced}

-- what is to be read, what came of it, and how many tokens may still be put in
pub record Machine : Type 0 where
  pub feed : List Fed
  pub active : Active
  pub out : List Fed
  pub left : ℕ

-- the use of a function
pub record Use : Type 0 where
  pub name : List ℕ
  pub site : Site
  pub macro : Macro
  pub arguments : List (List Fed)

-- how it goes on: with the next token, or with a use whose arguments are to be expanded
pub data Next : Type 0 where
  Goes : (machine : Machine) → Next
  Calls : (call : Use) (machine : Machine) → Next

abbrev pub machine_with : (feed : List Fed) (active : Active) (out : List Fed) (left : ℕ) → Machine
machine_with feed active out left = record { feed = feed; active = active; out = out; left = left }

-- a token comes out
abbrev pub emitted : Machine → Token → (is_kept : Bool) → Machine
emitted m token is_kept = machine_with m.feed m.active (m.out ++ Word token is_kept ∷ []) m.left

abbrev pub put_in : Machine → (name : List ℕ) → Filled → Machine
put_in m name f = machine_with (f.tokens ++ Behind ∷ m.feed) (m.active ++ name ∷ []) m.out f.left

-- tokens are put in for a use
abbrev pub puts : Machine → (name : List ℕ) → Site → Option Filled → Result Machine Site
puts m name site None = Err site
puts m name site (Some f) = Ok (put_in m name f)

abbrev pub enters : Machine → (name : List ℕ) → Site → Macro → Supply → Result Machine Site
enters m name site macro s = puts m name site (replaced site macro.parameters s (begun m.left) macro.body)

abbrev pub goes : Result Machine Site → Result Next Site
goes (Ok m) = Ok (Goes m)
goes (Err site) = Err site

abbrev pub use_of : (name : List ℕ) → Site → Macro → (arguments : List (List Fed)) → Use
use_of name site macro arguments = record { name = name; site = site; macro = macro; arguments = arguments }

-- the use of a function with its arguments
abbrev pub calls : Machine → (name : List ℕ) → Site → Macro → (parameters : List Token) → Option Gathered → Result Next Site
calls m name site macro parameters None = Err site
calls m name site macro parameters (Some g) =
    cond (fits parameters g.arguments) (Ok (Calls (use_of name site macro g.arguments) (machine_with g.rest g.active m.out m.left)))
    (Err site)

-- a function without `(` behind it is a token as others are (6.10.3p10)
abbrev pub uses : Machine → Token → (name : List ℕ) → Macro → Option (List Token) → Result Next Site
uses m token name macro None = goes (enters m name token.site macro (supply [] []))
uses m token name macro (Some parameters) =
    cond (opens m.feed) (calls m name token.site macro parameters (gathered 0 m.active [] [] m.feed)) (Ok (Goes (emitted m token false)))

-- a name that a macro stands for, where it is not within its own expansion
abbrev pub meets : Machine → Token → (name : List ℕ) → Option Macro → Result Next Site
meets m token name None = Ok (Goes (emitted m token false))
meets m token name (Some macro) =
    cond (is_active name m.active) (Ok (Goes (emitted m token true))) (
    cond (makes_strings macro) (Err token.site) (uses m token name macro macro.parameters))

-- the place of a use and the name of the file have no token here
abbrev pub is_left_out : (name : List ℕ) → Bool
is_left_out name =
    bytes_eq name (codes "__LINE__") || (bytes_eq name (codes "__FILE__")
    || (bytes_eq name (codes "__DATE__") || bytes_eq name (codes "__TIME__")))

abbrev pub named : Table → Machine → Token → (name : List ℕ) → Result Next Site
named table m token name = cond (is_left_out name) (Err token.site) (meets m token name (look name table None))

abbrev pub takes : Table → Machine → Token → (is_kept : Bool) → TokenKind → Result Next Site
takes table m token is_kept (Name name) = cond is_kept (Ok (Goes (emitted m token true))) (named table m token name)
takes table m token is_kept kind = Ok (Goes (emitted m token is_kept))

-- what is read next
abbrev pub step : Table → Machine → Fed → Result Next Site
step table m (Word token is_kept) = takes table m token is_kept token.kind
step table m Behind = Ok (Goes (machine_with m.feed (ended m.active) m.out m.left))

-- what came of tokens, and how many tokens may still be put in
pub record Expanded : Type 0 where
  pub out : List Fed
  pub left : ℕ

-- tokens that are expanded by themselves, as if nothing stood behind them
abbrev pub Inner : Type 0
Inner = Site → (left : ℕ) → Active → List Fed → Result Expanded Site

pub record Arguments : Type 0 where
  pub done : List (List Fed)
  pub left : ℕ

abbrev pub arguments_with : List (List Fed) → ℕ → Arguments
arguments_with done left = record { done = done; left = left }

-- each argument is expanded by itself before it is put in (6.10.3.1)
abbrev pub expanded_all : Inner → Site → Active → Arguments → List (List Fed) → Result Arguments Site
expanded_all inner site active a [] = Ok a
expanded_all inner site active a (argument ∷ arguments) =
    on (inner site a.left active argument)
    (λ e. expanded_all inner site active (arguments_with (a.done ++ e.out ∷ []) e.left) arguments)

abbrev pub performs : Inner → Next → Result Machine Site
performs inner (Goes m) = Ok m
performs inner (Calls u m) =
    on (expanded_all inner u.site m.active (arguments_with [] m.left) u.arguments)
    (λ a. enters (machine_with m.feed m.active m.out a.left) u.name u.site u.macro (supply u.arguments a.done))

abbrev pub expanded_with : (out : List Fed) → (left : ℕ) → Expanded
expanded_with out left = record { out = out; left = left }

-- the machine with what it was fed behind the front
abbrev pub fed_with : Machine → List Fed → Machine
fed_with m feed = machine_with feed m.active m.out m.left

abbrev pub advanced : Inner → Table → Machine → Fed → Result Machine Site
advanced inner table m f = on (step table m f) (performs inner)

abbrev pub taken_from : Machine → List Fed → Option Fed × Machine
taken_from m [] = (None, m)
taken_from m (f ∷ feed) = (Some f, fed_with m feed)

-- what is read next, if anything
abbrev pub taken : Machine → Option Fed × Machine
taken m = taken_from m m.feed

abbrev pub runs : (Machine → Result Expanded Site) → Inner → Table → Option Fed × Machine → Result Expanded Site
runs next inner table (None, m) = Ok (expanded_with m.out m.left)
runs next inner table (Some f, m) = on (advanced inner table m f) next

-- step after step, at most so many; fewer than that are ever needed
unfoldable pub machine : (steps : ℕ) → Inner → Site → Table → Machine → Result Expanded Site
machine zero inner site table m = Err site
machine (suc steps) inner site table m = runs (machine steps inner site table) inner table (taken m)

-- tokens with their macros expanded; uses in arguments are so many levels deep at most
unfoldable pub expanded : (depth : ℕ) → Table → Inner
expanded zero table site left active feed = Err site
expanded (suc depth) table site left active feed = machine 4194304 (expanded depth table) site table (machine_with feed active [] left)
