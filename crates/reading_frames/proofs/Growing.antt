-- A list that grows, token by token.
use Rattle.std.proofs.Common.{◌≡◌, ◌≤◌, ℕ, suc, ◌+◌, length, arith, List, [], ◌∷◌, ◌++◌, drop, refl, sym, ap, ◌∙◌, Option, Some, None, Bool, true, false, append_assoc}
use Rattle.plain_state.specs.Definitions.{with_cell}
use Rattle.tex_defs.specs.declared.Token.{Token}
use Rattle.reading_frames.specs.Views.{Lists, top_list, put, on_top, grown}
use Rattle.reading_frames.specs.Resumes.{with_list, listed_count}
use Rattle.reading_frames.specs.declared.ask.Grown.{Grown}

pub append_nil : (list : List Token) → list ++ [] ≡ list
append_nil [] = refl
append_nil (t ∷ list) = ap (λ (l : List Token). t ∷ l) (append_nil list)

pub append_one : (list : List Token) (t : Token) (more : List Token) → list ++ t ∷ more ≡ (list ++ t ∷ []) ++ more
append_one list t more = sym (append_assoc list (t ∷ []) more)

top_put : (o : Option Token) (held : Lists) → top_list (put o held) ≡ with_cell (top_list held) o
top_put None held = refl
top_put (Some t) held = refl

beneath_put : (o : Option Token) (held : Lists) → drop 1 (put o held) ≡ drop 1 held
beneath_put None held = refl
beneath_put (Some t) held = refl

pub top_grown : (g : Grown) (held : Lists) → top_list (on_top g held) ≡ grown g (top_list held)
top_grown g held = top_put g.second (put g.first held) ∙ ap (λ (l : List Token). with_cell l g.second) (top_put g.first held)

pub beneath_grown : (g : Grown) (held : Lists) → drop 1 (on_top g held) ≡ drop 1 held
beneath_grown g held = beneath_put g.second (put g.first held) ∙ beneath_put g.first held

-- the list of a value that is kept is one more
pub beneath_kept : (kept : Bool) (m n : ℕ) (ts : List Token) (held : Lists) → m ≡ listed_count kept + n → drop m (with_list kept ts held) ≡ drop n held
beneath_kept true m n ts held e = let f : m ≡ suc n = omega (arith, e) in rw f refl
beneath_kept false m n ts held e = let f : m ≡ n = omega (arith, e) in rw f refl

pub kept_held : (kept : Bool) (m n : ℕ) (ts : List Token) (held : Lists) → m ≡ listed_count kept + n → n ≤ length held → m ≤ length (with_list kept ts held)
kept_held true m n ts held e h = omega (arith, e, h)
kept_held false m n ts held e h = omega (arith, e, h)

-- no list goes where tokens come
put_held : (o : Option Token) (held : Lists) → length held ≤ length (put o held)
put_held None held = omega arith
put_held (Some t) [] = omega arith
put_held (Some t) (list ∷ held) = omega arith

pub grown_held : (g : Grown) (held : Lists) → length held ≤ length (on_top g held)
grown_held g held = omega (arith, put_held g.first held, put_held g.second (put g.first held))
