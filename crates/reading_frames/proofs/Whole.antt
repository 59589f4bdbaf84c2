-- The lists of a frame and those beneath it are all that are held.
use Rattle.std.proofs.Common.{◌≡◌, ◌≤◌, ℕ, zero, suc, List, [], ◌∷◌, ◌++◌, length, take, drop, arith, refl, sym, ap, ◌∙◌}
use Rattle.reading_frames.specs.Views.{Lists}
use Rattle.reading_frames.specs.Resumes.{list_count}
use Rattle.reading_frames.specs.Stack.{innermost_lists, innermost_count, lists_beneath}
use Rattle.reading_frames.specs.Frames.{opened_lists}
use Rattle.reading_frames.specs.declared.ask.Opening.{Opening}
use Rattle.reading_frames.specs.declared.ask.Opening.TheVariants.{Reads, Spelling, FileName, Behind, Skips}
use Rattle.rows.specs.declared.words.Phrase.TheVariants.{Command, Integer, Factor, Dimension, Glue, Keyword, Text, Definition}
use Rattle.reading_frames.specs.declared.frame.Frame.{Frame}
use Rattle.reading_frames.proofs.Held.{built_now}

pub taken_and_left : (n : ℕ) (held : Lists) → take n held ++ drop n held ≡ held
taken_and_left zero held = refl
taken_and_left (suc n) [] = refl
taken_and_left (suc n) (list ∷ held) = ap (λ (l : Lists). list ∷ l) (taken_and_left n held)

pub whole : (fs : List Frame) (held list rest : Lists) → list ≡ innermost_lists fs held [] → innermost_count fs ≤ length held → lists_beneath fs held ≡ rest → list ++ rest ≡ held
whole [] held list rest built holds beneath = ap (λ (l : Lists). l ++ rest) built ∙ sym beneath
whole (f ∷ fs) held list rest built holds beneath =
    ap (λ (l : Lists). l ++ rest) (built ∙ built_now f held holds) ∙ (ap (λ (l : Lists). take (list_count f) held ++ l) (sym beneath) ∙ taken_and_left (list_count f) held)

-- a reading that has a list begins with one of no token
pub opened_list : (o : Opening) (held : Lists) → 1 ≤ length (opened_lists o []) → opened_lists o held ≡ [] ∷ held
opened_list (Reads (Command c)) held h = absurd (omega (arith, h))
opened_list (Reads Integer) held h = absurd (omega (arith, h))
opened_list (Reads Factor) held h = absurd (omega (arith, h))
opened_list (Reads (Dimension k)) held h = absurd (omega (arith, h))
opened_list (Reads (Glue mu)) held h = absurd (omega (arith, h))
opened_list (Reads (Keyword w)) held h = absurd (omega (arith, h))
opened_list (Behind c x) held h = absurd (omega (arith, h))
opened_list (Skips c aim line) held h = absurd (omega (arith, h))
opened_list (Reads (Text name expanded)) held h = refl
opened_list (Reads (Definition name expanded)) held h = refl
opened_list (Spelling c) held h = refl
opened_list (FileName c) held h = refl
