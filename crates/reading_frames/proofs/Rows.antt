-- What a row may ask for behind one item, by induction over its stages.
use Rattle.std.proofs.Common.{◌≡◌, Bool, true, false, List, [], ◌∷◌, ◌++◌, refl, sym, subst}
use Rattle.tex_defs.specs.declared.Name.{Name}
use Rattle.tex_defs.specs.declared.Token.{Token}
use Rattle.tex_syntax.specs.declared.words.Want.{Want}
use Rattle.tex_syntax.specs.declared.words.Report.{Report}
use Rattle.rows.specs.declared.words.Datum.{Datum}
use Rattle.rows.specs.declared.words.Value.{Value}
use Rattle.rows.specs.declared.words.Phrase.{Phrase}
use Rattle.rows.specs.declared.stage.Stage.{Stage}
use Rattle.rows.specs.declared.stage.Start.{Start}
use Rattle.rows.specs.declared.stage.Start.TheVariants.{Looks, Begins}
use Rattle.rows.specs.declared.stage.Got.{Got}
use Rattle.rows.specs.declared.stage.Got.TheVariants as got
use Rattle.rows.specs.declared.stage.Next.{Next}
use Rattle.rows.specs.declared.stage.Next.TheVariants as next
use Rattle.rows.specs.declared.command.Call.{Call}
use Rattle.rows.specs.declared.command.Effect.{Effect}
use Rattle.rows.specs.declared.command.Effect.TheVariants.{Unassigned}
use Rattle.rows.specs.Readings.{Fed, Val, Noted}
use Rattle.rows.specs.Commands.{CommandAsk, More, Inner, Acts, ActsOn, Defines, Ends, Tells}
use Rattle.rows.specs.Table.{stages_of, stages_left}
use Rattle.rows.specs.Stages.{start, on_value, numbered_by, name}
use Rattle.rows.specs.Effects.{command_effect, as_definition}
use Rattle.rows.specs.Run.{StageOutcome, Asks, Takes, Passes, Gathers, Makes, Becomes, comes, valued, started, behind, run, no_turn}
use Rattle.row_frames.specs.declared.frame.RowFrame.{RowFrame}
use Rattle.row_frames.specs.declared.turn.Kept.{Kept}
use Rattle.row_frames.specs.declared.turn.Kept.TheVariants as kept
use Rattle.row_frames.specs.Data.{values}
use Rattle.row_frames.specs.Resumes.{within, resume_row, turn_of, resume}

module _
    (P : CommandAsk → Type 0)
    (more : (want : Want) → P (More want))
    (begin : (k : Phrase) → P (Inner k false))
    (act : (c : Call) (e : Effect) → P (Acts c e))
    (act_on : (c : Call) (e : Effect) (ts : List Token) → P (ActsOn c e ts))
    (define : (c : Call) (n : Name) (ts : List Token) → P (Defines c n ts))
    (end : P Ends)
  where
    -- what comes of a stage behind the last item
    abbrev Fits : StageOutcome → Type 0
    Fits (Asks a) = P a
    Fits (Takes d fed) = fed ≡ []
    Fits (Passes fed) = fed ≡ []
    Fits (Gathers ts) = Unit {0}
    Fits (Makes ts) = Unit {0}
    Fits (Becomes c fed) = fed ≡ []

    start_fits : (s : Stage) (c : Call) (begun : Start) → Fits (started s c begun [])
    start_fits s c (Looks want) = more want
    start_fits s c (Begins k) = begin k

    module _ (turn : Call → List Fed → CommandAsk) (turns : (c : Call) → P (turn c [])) where
      behind_fits : (c : Call) (ds : List Datum) (onward : List Datum → List Fed → CommandAsk) → ((es : List Datum) → P (onward es [])) → (o : StageOutcome) → Fits o → P (behind turn c ds onward o)
      behind_fits c ds onward h (Asks a) fits = fits
      behind_fits c ds onward h (Takes d fed) e = subst (λ (l : List Fed). P (onward (ds ++ d ∷ []) l)) (sym e) (h (ds ++ d ∷ []))
      behind_fits c ds onward h (Passes fed) e = subst (λ (l : List Fed). P (onward ds l)) (sym e) (h ds)
      behind_fits c ds onward h (Gathers ts) fits = act_on c (command_effect c ds) ts
      behind_fits c ds onward h (Makes ts) fits = define (as_definition c) (name 0 ds) ts
      behind_fits c ds onward h (Becomes d fed) e = subst (λ (l : List Fed). P (turn d l)) (sym e) (turns d)

      run_fits : (c : Call) (ss : List Stage) (ds : List Datum) → P (run turn c ss ds [])
      run_fits c [] ds = act c (command_effect c ds)
      run_fits c (s ∷ ss) ds =
          behind_fits c ds (λ es fed. run turn c ss es fed) (λ es. run_fits c ss es) (started s c (start s c ds) []) (start_fits s c (start s c ds))

      row_fits : (y : Fed) → ((s : Stage) (c : Call) (ds : List Datum) (k : Kept) → Fits (within s c ds k (y ∷ []))) →
          (c : Call) (ss : List Stage) (ds : List Datum) (k : Kept) → P (resume_row turn c ss ds k (y ∷ []))
      row_fits y h c [] ds k = act c (command_effect c ds)
      row_fits y h c (s ∷ ss) ds k = behind_fits c ds (λ es fed. run turn c ss es fed) (λ es. run_fits c ss es) (within s c ds k (y ∷ [])) (h s c ds k)

    turn_fits : (b : Bool) (c : Call) → P (turn_of b c [])
    turn_fits true c = end
    turn_fits false c = run_fits no_turn (λ d. end) c (stages_of c.head) []

    frame_fits : (y : Fed) → ((s : Stage) (c : Call) (ds : List Datum) (k : Kept) → Fits (within s c ds k (y ∷ []))) → (f : RowFrame) → P (resume f (y ∷ []))
    frame_fits y h f = row_fits (λ c fed. turn_of f.is_turned c fed) (λ c. turn_fits f.is_turned c) y h f.call (stages_left f.left) (values f.read) f.kept

    -- BEHIND A NOTE

    comes_fits : (m : Next) → Fits (comes m [])
    comes_fits (next.Takes d) = refl
    comes_fits next.Stops = end
    comes_fits (next.Unassigned c) = act c Unassigned
    comes_fits (next.Becomes c) = refl

    start_noted : (s : Stage) (c : Call) (begun : Start) → Fits (started s c begun (Noted ∷ []))
    start_noted s c (Looks want) = end
    start_noted s c (Begins k) = end

    within_noted : (s : Stage) (c : Call) (ds : List Datum) (k : Kept) → Fits (within s c ds k (Noted ∷ []))
    within_noted s c ds kept.Start = start_noted s c (start s c ds)
    within_noted s c ds (kept.Looking d want) = end
    within_noted s c ds (kept.Within k) = end
    within_noted s c ds (kept.Numbered b) = end
    within_noted s c ds (kept.Noting n m) = comes_fits m
    within_noted s c ds (kept.Retrying d want n) = more want

    pub noted_holds : (f : RowFrame) → P (resume f (Noted ∷ []))
    noted_holds f = frame_fits Noted within_noted f

    -- BEHIND A VALUE

    module _ (tell : (report : Report) → P (Tells report false)) where
      got_fits : (g : Got) (ts : List Token) → Fits (valued g ts [])
      got_fits (got.Takes d) ts = refl
      got_fits (got.Tells report m) ts = tell report
      got_fits got.Gathers ts = tt
      got_fits got.Defines ts = tt

      start_valued : (v : Value) (ts : List Token) (s : Stage) (c : Call) (begun : Start) → Fits (started s c begun (Val v ts ∷ []))
      start_valued v ts s c (Looks want) = end
      start_valued v ts s c (Begins k) = got_fits (on_value s v) ts

      within_valued : (v : Value) (ts : List Token) (s : Stage) (c : Call) (ds : List Datum) (k : Kept) → Fits (within s c ds k (Val v ts ∷ []))
      within_valued v ts s c ds kept.Start = start_valued v ts s c (start s c ds)
      within_valued v ts s c ds (kept.Looking d want) = end
      within_valued v ts s c ds (kept.Within k) = got_fits (on_value s v) ts
      within_valued v ts s c ds (kept.Numbered b) = got_fits (numbered_by b v) ts
      within_valued v ts s c ds (kept.Noting n m) = end
      within_valued v ts s c ds (kept.Retrying d want n) = end

      pub value_holds : (v : Value) (ts : List Token) (f : RowFrame) → P (resume f (Val v ts ∷ []))
      value_holds v ts f = frame_fits (Val v ts) (within_valued v ts) f
