-- A file is opened, and it is begun the same way, whichever bytes follow behind its first line.
use Rattle.std.proofs.Common.{◌≡◌, ℕ, ◌+◌, ◌<◌, Bool, true, false, List, [], ◌∷◌, ◌++◌, length, refl, sym, ap, ap₂, ◌∙◌, subst}
use Rattle.std.specs.Prelude.{Option, Some, None, bytes_eq, if◌then◌else◌}
use Rattle.std.proofs.lemmas.Slice.Eq.{bytes_eq-Decides}
use Rattle.tex_defs.specs.Places.{World}
use Rattle.tex_defs.specs.declared.Full.{Full}
use Rattle.tex_defs.specs.declared.Sizes.{Sizes}
use Rattle.plain_tokens.specs.Lines.{has_feed, first_bytes, first_line, behind_feed, trimmed}
use Rattle.plain_tokens.specs.declared.line_state.LineState.TheVariants.{NewLine}
use Rattle.plain_tokens.specs.Pending.{Pending, Begun as BegunFile, with_end, with_next, with_begun, source_of}
use Rattle.plain_tokens.specs.Tables.{Demand, buffer, line_need, level, open_lines, next_file, refused}
use Rattle.equivalents.specs.Parameters.{end_of_line}
use Rattle.plain_machine.specs.declared.broken.Broken.{Broken}
use Rattle.plain_machine.specs.declared.broken.Broken.TheVariants as broken
use Rattle.plain_machine.specs.States.{State, Move, FirstTaken, FileOpened, ListsEnded, made}
use Rattle.plain_machine.specs.Demands.{refusal}
use Rattle.plain_machine.specs.Plan.{ruled}
use Rattle.plain_machine.specs.Runs.{Wrote, made_all}
use Rattle.plain_machine.specs.Does.{Did, Cut, Refuses, IsCause, front_of}
use Rattle.plain_machine.specs.Extended.{Rests, found_first, rests_before_opening, first_left, extended_pending, extended, IsFirstReady, HasFirst, NoMoreBytes, FirstTooLong}
use Rattle.plain_machine.proofs.Ahead.{full_buffer, long_need, alone_need, no_more, long_refused, first_more, behind_more, open_lines_same, level_same, text_level_same}
use Rattle.plain_machine.proofs.Extending.{no_refusal}

-- A FILE IS OPENED

same_name : (name : List ℕ) → bytes_eq name name ≡ true
same_name name = (bytes_eq-Decides name name).1 refl

module _ (s : State) (name : List ℕ) (r : Rests) where
  -- where the openings find these files, and then this one
  abbrev opened_as : Rests → Option (List ℕ) → Pending → State
  opened_as before found p = record s { pending = with_next found (extended_pending before.left p); files = r.files }

  first_found : (found : Option (List ℕ)) → found_first name found r.files 0 name ≡ found
  first_found found = ap (λ (b : Bool). if b then found else r.files 0 name) (same_name name)

  abbrev unopened : State
  unopened = record s { pending = record s.pending { next = None } }

  -- Where it is found, all its bytes are left.
  abbrev OpensFound : State → Type 0
  OpensFound t = made (FileOpened name) (extended (rests_before_opening name true r) t) ≡ extended r (record t { pending = with_next (Some []) t.pending })

  abbrev OpensNone : State → Type 0
  OpensNone t = made (FileOpened name) (extended (rests_before_opening name false r) t) ≡ extended r t

  found_here : OpensFound unopened
  found_here = ap (λ (o : Option (List ℕ)). opened_as (rests_before_opening name true r) o unopened.pending) (first_found (Some (first_left r.left)))

  none_here : OpensNone unopened
  none_here = ap (λ (o : Option (List ℕ)). opened_as (rests_before_opening name false r) o unopened.pending) (first_found None)

  module _ (none : s.pending.next ≡ None) where
    pub opens_found : OpensFound s
    opens_found = subst OpensFound (ap (λ (o : Option (List ℕ)). record s { pending = record s.pending { next = o } }) (sym none)) found_here

    pub opens_none : OpensNone s
    opens_none = subst OpensNone (ap (λ (o : Option (List ℕ)). record s { pending = record s.pending { next = o } }) (sym none)) none_here

-- It asks for the same.
pub opening_fits : (sizes : Sizes) (s : State) (name : List ℕ) (r : Rests) → refusal sizes (FileOpened name) (extended r s) ≡ refusal sizes (FileOpened name) s
opening_fits sizes s name r = ap (λ (d : Demand). refused sizes (d ∷ [])) (text_level_same r.left s.pending)

-- IT IS BEGUN

-- the first line is the same, or too long, whatever it is
data FirstSight (size : ℕ) (bytes more : List ℕ) : Type 0 where
  Alike : first_bytes (bytes ++ more) ≡ first_bytes bytes → behind_feed (bytes ++ more) ≡ behind_feed bytes ++ more → FirstSight size bytes more
  Long : size < line_need bytes → size < line_need (bytes ++ more) → FirstSight size bytes more

first_sight : (size : ℕ) (bytes more : List ℕ) → IsFirstReady size bytes more → FirstSight size bytes more
first_sight size bytes more (HasFirst h) = Alike (first_more bytes more h) (behind_more bytes more h)
first_sight size bytes more (NoMoreBytes none) = Alike (ap first_bytes (no_more bytes more none)) (ap behind_feed (no_more bytes more none) ∙ sym (no_more (behind_feed bytes) more none))
first_sight size bytes more (FirstTooLong l) = by_feed (has_feed bytes) refl where
  by_feed : (b : Bool) → has_feed bytes ≡ b → FirstSight size bytes more
  by_feed true h = Alike (first_more bytes more h) (behind_more bytes more h)
  by_feed false h = Long (alone_need size bytes h l) (long_need size bytes more h l)

module _ (bytes : List ℕ) (left : List (List ℕ)) where
  -- where a file of these bytes was opened
  abbrev opened : Pending → Pending
  opened p = record p { next = Some bytes }

  abbrev more : List ℕ
  more = first_left left

  -- it is the innermost then, with this first line and these bytes behind it
  abbrev begun_from : Pending → (first behind : List ℕ) → Pending
  begun_from p first behind = record {
    puts = [];
    line = trimmed first;
    lex = NewLine;
    whole = length (trimmed first);
    rest = behind;
    file = BegunFile;
    number = 1;
    ends = false;
    outer = source_of (extended_pending left (opened p)) ∷ (extended_pending left (opened p)).outer;
    next = None;
  }

  abbrev BeginsAlike : Pending → Type 0
  BeginsAlike p = with_begun (extended_pending left p) ≡ extended_pending left (with_begun p)

  abbrev DemandsOf : Pending → List ℕ → Type 0
  DemandsOf p all = next_file (extended_pending left p) ≡ buffer (line_need all) (open_lines p) ∷ level p ∷ []

  module _ (p : Pending) where
    begun_alike : first_bytes (bytes ++ more) ≡ first_bytes bytes → behind_feed (bytes ++ more) ≡ behind_feed bytes ++ more → BeginsAlike (opened p)
    begun_alike e f = ap₂ (begun_from p) e f

    demands_of : DemandsOf (opened p) (bytes ++ more)
    demands_of = ap₂ (λ (n : ℕ) (d : Demand). buffer (line_need (bytes ++ more)) n ∷ d ∷ []) (open_lines_same left (opened p)) (level_same left (opened p))

    module _ (is : p.next ≡ Some bytes) where
      begins_alike : first_bytes (bytes ++ more) ≡ first_bytes bytes → behind_feed (bytes ++ more) ≡ behind_feed bytes ++ more → BeginsAlike p
      begins_alike e f = subst BeginsAlike (ap (λ (o : Option (List ℕ)). record p { next = o }) (sym is)) (begun_alike e f)

      extended_demands : DemandsOf p (bytes ++ more)
      extended_demands = subst (λ (q : Pending). DemandsOf q (bytes ++ more)) (ap (λ (o : Option (List ℕ)). record p { next = o }) (sym is)) demands_of

      own_demands : next_file p ≡ buffer (line_need bytes) (open_lines p) ∷ level p ∷ []
      own_demands = subst (λ (q : Pending). next_file q ≡ buffer (line_need bytes) (open_lines q) ∷ level q ∷ []) (ap (λ (o : Option (List ℕ)). record p { next = o }) (sym is)) refl

module _ (sizes : Sizes) (s : State) (bytes : List ℕ) (r : Rests) (is : s.pending.next ≡ Some bytes) (ready : IsFirstReady sizes.buffer_size bytes (first_left r.left)) where
  abbrev all_bytes : List ℕ
  all_bytes = bytes ++ first_left r.left

  abbrev one : List Move
  one = ListsEnded ∷ FirstTaken (first_line bytes) ∷ []

  abbrev same_one : List Move
  same_one = ListsEnded ∷ FirstTaken (first_line all_bytes) ∷ []

  -- once the finished lists in front have gone
  abbrev behind_lists : State
  behind_lists = made ListsEnded s

  abbrev demanded : List ℕ → List Demand
  demanded line = buffer (line_need line) (open_lines behind_lists.pending) ∷ level behind_lists.pending ∷ []

  abbrev HasFirstSight : Type 0
  HasFirstSight = FirstSight sizes.buffer_size bytes (first_left r.left)

  fits_of : (line : List ℕ) → refusal sizes (FirstTaken line) (extended r behind_lists) ≡ refused sizes (demanded all_bytes)
  fits_of line = ap (refused sizes) (extended_demands bytes r.left behind_lists.pending is)

  own_fits : (line : List ℕ) → refusal sizes (FirstTaken line) behind_lists ≡ refused sizes (demanded bytes)
  own_fits line = ap (refused sizes) (own_demands bytes r.left behind_lists.pending is)

  too_long : (line : List ℕ) → sizes.buffer_size < line_need line → refused sizes (demanded line) ≡ Some (full_buffer (open_lines behind_lists.pending) sizes)
  too_long line l = long_refused sizes (line_need line) (open_lines behind_lists.pending) (level behind_lists.pending ∷ []) l

  -- a table that is full is the same one
  same_fits : (line line' : List ℕ) → HasFirstSight → refusal sizes (FirstTaken line') (extended r behind_lists) ≡ refusal sizes (FirstTaken line) behind_lists
  same_fits line line' (Alike e f) = fits_of line' ∙ ap (λ (first : List ℕ). refused sizes (buffer (1 + length first) (open_lines behind_lists.pending) ∷ level behind_lists.pending ∷ [])) e ∙ sym (own_fits line)
  same_fits line line' (Long l l') = fits_of line' ∙ too_long all_bytes l' ∙ sym (too_long bytes l) ∙ sym (own_fits line)

  not_both : (o : Option Full) (full : Full) → o ≡ Some full → o ≡ None → ⊥
  not_both o full e e' = absurd (cc)

  makes : (line line' : List ℕ) → refusal sizes (FirstTaken line) behind_lists ≡ None → HasFirstSight → made (FirstTaken line') (extended r behind_lists) ≡ extended r (made (FirstTaken line) behind_lists)
  makes line line' fits (Alike e f) = ap (λ (p : Pending). record s { pending = with_end (end_of_line s.groups.now) p; files = r.files }) (begins_alike bytes r.left behind_lists.pending is e f)
  makes line line' fits (Long l l') = absurd (not_both (refusal sizes (FirstTaken line) behind_lists) (full_buffer (open_lines behind_lists.pending) sizes) (own_fits line ∙ too_long bytes l) fits)

  wrote_as : (w w' : World) → Wrote w w' one → Wrote w w' same_one
  wrote_as w w' h = record { told = h.told; column = h.column; later = h.later }

  sees : HasFirstSight
  sees = first_sight sizes.buffer_size bytes (first_left r.left) ready

  pub begins_did : (s' : State) (w w' : World) → Did sizes s s' w w' (ruled s (Some bytes)) → Did sizes (extended r s) (extended r s') w w' (ruled (extended r s) (Some all_bytes))
  begins_did s' w w' d = record {
    state = makes (first_line bytes) (first_line all_bytes) d.fits.1.0 sees ∙ ap (extended r) d.state;
    fits = (refl, (same_fits (first_line bytes) (first_line all_bytes) sees ∙ d.fits.1.0, tt));
    written = wrote_as w w' d.written;
  }

  refuses_as : (why : Broken) → Refuses sizes why (FirstTaken (first_line bytes)) behind_lists → Refuses sizes why (FirstTaken (first_line all_bytes)) (extended r behind_lists)
  refuses_as (broken.Full full) h = same_fits (first_line bytes) (first_line all_bytes) sees ∙ h
  refuses_as broken.WriteFault h = absurd h
  refuses_as broken.Want h = absurd h

  cut_at : (at : State) (w w' : World) (why : Broken) (done : List Move) (m : Move) (rest : List Move) (count : ℕ) → one ≡ done ++ m ∷ rest → made_all done s ≡ at → Refuses sizes why m at → IsCause why w w' →
      Wrote w w' (done ++ front_of count m) → Cut sizes (extended r s) (extended r at) w w' same_one why
  cut_at at w w' why [] m rest count all state refuses cause written = absurd (no_refusal sizes why m at (cc) refuses)
  cut_at at w w' why (d ∷ []) m rest count all state refuses cause written =
      let settles : d ≡ ListsEnded = cc in
      let takes : m ≡ FirstTaken (first_line bytes) = cc in
      let here : behind_lists ≡ at = ap (λ (x : Move). made x s) (sym settles) ∙ state in
      let there : Refuses sizes why (FirstTaken (first_line bytes)) behind_lists = subst (Refuses sizes why (FirstTaken (first_line bytes))) (sym here) (subst (λ (x : Move). Refuses sizes why x at) takes refuses) in
      record {
        done = ListsEnded ∷ [];
        m = FirstTaken (first_line all_bytes);
        rest = [];
        count = 0;
        all = refl;
        state = ap (extended r) here;
        fits = (refl, tt);
        refuses = subst (λ (x : State). Refuses sizes why (FirstTaken (first_line all_bytes)) (extended r x)) here (refuses_as why there);
        cause = cause;
        written = subst (λ (x : Move). Wrote w w' (x ∷ [])) settles (subst (λ (x : Move). Wrote w w' (d ∷ front_of count x)) takes written);
      }
  cut_at at w w' why (d ∷ x ∷ []) m rest count all state refuses cause written = absurd (cc)
  cut_at at w w' why (d ∷ x ∷ y ∷ done) m rest count all state refuses cause written = absurd (cc)

  pub begins_cut : (at : State) (w w' : World) (why : Broken) → Cut sizes s at w w' (ruled s (Some bytes)) why → Cut sizes (extended r s) (extended r at) w w' (ruled (extended r s) (Some all_bytes)) why
  begins_cut at w w' why c = cut_at at w w' why c.done c.m c.rest c.count c.all c.state c.refuses c.cause c.written
