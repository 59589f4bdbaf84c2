use Rattle.std.proofs.Common.{◌≡◌, ◌∙◌, ℕ, List, [], ◌∷◌, refl, sym, ap, subst}
use Rattle.std.specs.Prelude.{Bool, true, false, Option, None, Some, Ok, Err, Result}
use Rattle.plain_readings.specs.Readings.{Reading}
use Rattle.plain_machine.specs.declared.broken.Broken.TheVariants as broken
use Rattle.plain_machine.specs.Extended.{Rests, rests_before_opening}
use Rattle.plain_machine.specs.Plan.{unless_found}
use Rattle.input_state.specs.Stored.{Stored}
use Rattle.engine_state.specs.Rules.{Cuts, Halts}
use Rattle.engine_state.specs.Stands.{page_of, state_of}
use Rattle.engine_state.specs.declared.outcome.Ruled.TheVariants as ruled
use Rattle.engine_state.proofs.ReadingsOpened.{none_of}
use Rattle.engine_state.proofs.Uncalled.{all_of}
use Rattle.plain_tokens.specs.Tokens.{character_codes}
use Rattle.command_words.specs.Words.{file_name}
use Rattle.rows.specs.declared.command.Effect.{Effect}
use Rattle.rows.specs.declared.command.Effect.TheVariants as effect
use Rattle.reading_frames.specs.declared.ask.Ask.{Ask}
use Rattle.reading_frames.specs.declared.ask.Ask.TheVariants as ask
use Rattle.reading_frames.specs.Views.{Lists, kept_list_of}
use Rattle.reading_frames.specs.Stack.{asked_in, asked_of}
use Rattle.reading_frames.specs.Frames as frames
use Rattle.world_io.specs.Contents.{world}
use Rattle.engine_state.specs.declared.engine.Engine.{Engine}
use Rattle.engine_state.specs.declared.outcome.Ruled.{Ruled}
use Rattle.engine_state.specs.Book.{Book, with_work}
use Rattle.engine_state.specs.Steps.{asked}
use Rattle.stomach.specs.declared.early.Early.{Early}
use Rattle.stomach.specs.declared.early.Early.TheVariants as early
use Rattle.stomach.specs.Ran.{Came, CameOn, CutBy, Stops, UnreadBy, RuledTo, step_count, whole_state}
use Rattle.stomach.specs.Ahead.{needs_step}
use Rattle.stomach.proofs.OneRule.{reads_same}
use Rattle.stomach.proofs.Opening.{by_name, found, frames_by, frames_near, levels_cut, match_false, match_true, missing_cut, missing_halts, next_stands, next_tied, starts_uncalled, no_room, open_unread, sought_count, sought_cut}
use Rattle.stomach.proofs.FilesFound.{reads_found, reads_missing}
use Rattle.stomach.proofs.Reading.{reads_left}
use Rattle.stomach.proofs.Rounds.{of_err}
use Rattle.stomach.proofs.files.open_file.Goals as goal

pub returns-in_err-count-clause-rule : goal.returns-in_err-count-clause-rule
returns-in_err-count-clause-rule g c =
    let n = c.in-Some-ActsOn-default-StartInput-default in
    let rs = c.args.readers.now in
    let e = c.args.engine.now in
    let e' = c.seek.new.engine in
    let s = g.S.Sink.told c.args.out.now in
    let i = c.in_err-count in
    let b = i.field-0.0 in
    let a : Ask = ask.ActsOn n.field-0-0 (effect.StartInput n.back) n.listed in
    let is : c.ask.result ≡ Some a = n.is ∙ ap (λ (x : Ask). Some x) (n.field-0-is ∙ ap (λ (x : Effect). ask.ActsOn n.field-0-0 x n.listed) n.field-0-1-is) in
    let asks = subst (λ (o : Option Ask). (held : Lists) (work : List Reading) → frames.AreFramesOf None e.readings.frames held work → asked_of held o ≡ asked_in work) is c.ask.ensures.stands in
    let column : e.in_line ≡ e'.in_line = sym c.seek.ensures.column in
    reads_same (λ (all left : Rests). RuledTo rs e s rs e' s all left c.from_residual.result) rs.readers _
    (λ left may. of_err c.from_residual.result (early.Broken b) (λ (r : Result Ruled Early). RuledTo rs e s rs e' s left left r) c.from_residual.ensures.1
    (λ sizes f book stands tied. by_name sizes e a asks (λ (bk : Book). CutBy sizes (whole_state left e bk) (step_count (needs_step e)) e' left (world f s e.in_line) (world f s e'.in_line) b)
    (λ bk r rest asked st. subst (λ (x : Bool). CutBy sizes (whole_state left e (with_work (r ∷ rest) bk)) (step_count (needs_step e)) e' left (world f s e.in_line) (world f s x) b) column
    (sought_cut sizes e n.field-0-0 n.back (kept_list_of n.listed e.input.builds) c.requires.none_opened bk r rest asked left e' left (world f s e.in_line) (world f s e.in_line) (step_count (needs_step e)) b refl (i.ensures.err sizes (world f s e.in_line) bk r rest [] st)))
    book (starts_uncalled e.input.call (asked e) c.requires.starts) stands))

pub returns-in-Some-clause-rule : goal.returns-in-Some-clause-rule
returns-in-Some-clause-rule g c =
    let n = c.in-Some-ActsOn-default-StartInput-default in
    let rs = c.args.readers.now in
    let e = c.args.engine.now in
    let e' = c.seek.new.engine in
    let s = g.S.Sink.told c.args.out.now in
    let i = c.in_ok-count in
    let a : Ask = ask.ActsOn n.field-0-0 (effect.StartInput n.back) n.listed in
    let is : c.ask.result ≡ Some a = n.is ∙ ap (λ (x : Ask). Some x) (n.field-0-is ∙ ap (λ (x : Effect). ask.ActsOn n.field-0-0 x n.listed) n.field-0-1-is) in
    let asks = subst (λ (o : Option Ask). (held : Lists) (work : List Reading) → frames.AreFramesOf None e.readings.frames held work → asked_of held o ≡ asked_in work) is c.ask.ensures.stands in
    let column : e.in_line ≡ e'.in_line = sym c.seek.ensures.column in
    reads_same (λ (all left : Rests). RuledTo rs e s rs e' s all left (Err (early.Broken (broken.Full c.in-Some.full)))) rs.readers _
    (λ left may sizes f book stands tied. by_name sizes e a asks (λ (bk : Book). CutBy sizes (whole_state left e bk) (step_count (needs_step e)) e' left (world f s e.in_line) (world f s e'.in_line) (broken.Full c.in-Some.full))
    (λ bk r rest asked st. subst (λ (x : Bool). CutBy sizes (whole_state left e (with_work (r ∷ rest) bk)) (step_count (needs_step e)) e' left (world f s e.in_line) (world f s x) (broken.Full c.in-Some.full)) column
    (levels_cut sizes e n.field-0-0 n.back (kept_list_of n.listed e.input.builds) c.requires.none_opened bk r rest asked left e' (world f s e.in_line) i.count (i.ensures.rule sizes (world f s e.in_line) bk r rest st) left c.in-Some.full (step_count (needs_step e)) refl (sym c.file_room.ensures ∙ c.in-Some.is)))
    book (starts_uncalled e.input.call (asked e) c.requires.starts) stands)

pub spelt-requires : goal.spelt-requires
spelt-requires g c = c.in_ok-count.ensures.room

pub refuse_spelt-requires : goal.refuse_spelt-requires
refuse_spelt-requires g c = c.in_ok-count.ensures.room

pub returns-then-not-has_room-clause-rule : goal.returns-then-not-has_room-clause-rule
returns-then-not-has_room-clause-rule g c =
    let n = c.in-Some-ActsOn-default-StartInput-default in
    let rs = c.args.readers.now in
    let e = c.args.engine.now in
    let e' = c.seek.new.engine in
    let s = g.S.Sink.told c.args.out.now in
    let i = c.in_ok-count in
    let a : Ask = ask.ActsOn n.field-0-0 (effect.StartInput n.back) n.listed in
    let is : c.ask.result ≡ Some a = n.is ∙ ap (λ (x : Ask). Some x) (n.field-0-is ∙ ap (λ (x : Effect). ask.ActsOn n.field-0-0 x n.listed) n.field-0-1-is) in
    let asks = subst (λ (o : Option Ask). (held : Lists) (work : List Reading) → frames.AreFramesOf None e.readings.frames held work → asked_of held o ≡ asked_in work) is c.ask.ensures.stands in
    let column : e.in_line ≡ e'.in_line = sym c.seek.ensures.column in
    let ts = kept_list_of n.listed e.input.builds in
    let none = starts_uncalled e.input.call (asked e) c.requires.starts in
    let unopened = c.requires.none_opened in
    let room = sym c.file_room.ensures ∙ none_of c.file_room.result c.in_default-file_room.not-Some in
    reads_same (λ (all left : Rests). RuledTo rs e s rs e' s all left (Err (early.Broken (broken.Full c.levels_full.result)))) rs.readers _
    (λ left may sizes f book stands tied. absurd (by_name sizes e a asks (λ (bk : Book). ⊥)
    (λ bk r rest asked st. no_room sizes e e' (with_work (r ∷ rest) bk) (with_work rest bk) (world f s e.in_line) n.back (page_of e bk) (file_name (character_codes ts)) (file_name (character_codes ts)) i.count rs tied st (i.ensures.rule sizes (world f s e.in_line) bk r rest st) room c.if-not-has_room.ensures)
    book none stands))

pub returns-in_err-open-clause-rule : goal.returns-in_err-open-clause-rule
returns-in_err-open-clause-rule g c =
    let n = c.in-Some-ActsOn-default-StartInput-default in
    let rs = c.args.readers.now in
    let e = c.args.engine.now in
    let e' = c.seek.new.engine in
    let s = g.S.Sink.told c.args.out.now in
    let i = c.in_ok-count in
    let a : Ask = ask.ActsOn n.field-0-0 (effect.StartInput n.back) n.listed in
    let is : c.ask.result ≡ Some a = n.is ∙ ap (λ (x : Ask). Some x) (n.field-0-is ∙ ap (λ (x : Effect). ask.ActsOn n.field-0-0 x n.listed) n.field-0-1-is) in
    let asks = subst (λ (o : Option Ask). (held : Lists) (work : List Reading) → frames.AreFramesOf None e.readings.frames held work → asked_of held o ≡ asked_in work) is c.ask.ensures.stands in
    let column : e.in_line ≡ e'.in_line = sym c.seek.ensures.column in
    let ts = kept_list_of n.listed e.input.builds in
    let none = starts_uncalled e.input.call (asked e) c.requires.starts in
    let unopened = c.requires.none_opened in
    let room = sym c.file_room.ensures ∙ none_of c.file_room.result c.in_default-file_room.not-Some in
    let k = c.in_err-open in
    let x : Early = early.Unread k.field-0.0 in
    let rs' = c.open.new.self in
    let keeps = k.ensures.err in
    let o = c.open.ensures in
    reads_left rs.readers rs'.readers _ _ (λ (all left : Rests). RuledTo rs e s rs' e' s all left c.from_residual-in_err-open.result) (λ left. left)
    (λ left. of_err c.from_residual-in_err-open.result x (λ (r : Result Ruled Early). RuledTo rs e s rs' e' s left left r) c.from_residual-in_err-open.ensures.1
    (λ sizes f book stands tied. by_name sizes e a asks (λ (bk : Book). UnreadBy sizes (whole_state left e bk) (step_count (needs_step e)) e' left (world f s e.in_line) (world f s e'.in_line))
    (λ bk r rest asked st. subst (λ (y : Bool). UnreadBy sizes (whole_state left e (with_work (r ∷ rest) bk)) (step_count (needs_step e)) e' left (world f s e.in_line) (world f s y)) column
    (open_unread sizes e n.field-0-0 n.back ts unopened bk r rest asked left e' (world f s e.in_line) i.count (i.ensures.rule sizes (world f s e.in_line) bk r rest st) left (step_count (needs_step e)) refl room))
    book none stands))
    keeps.told keeps.may o.open o.knows o.file o.cause.later o.writes o.cause.later_wants

pub returns-then-branch-clause-rule : goal.returns-then-branch-clause-rule
returns-then-branch-clause-rule g c =
    let n = c.in-Some-ActsOn-default-StartInput-default in
    let rs = c.args.readers.now in
    let e = c.args.engine.now in
    let e' = c.seek.new.engine in
    let s = g.S.Sink.told c.args.out.now in
    let i = c.in_ok-count in
    let a : Ask = ask.ActsOn n.field-0-0 (effect.StartInput n.back) n.listed in
    let is : c.ask.result ≡ Some a = n.is ∙ ap (λ (x : Ask). Some x) (n.field-0-is ∙ ap (λ (x : Effect). ask.ActsOn n.field-0-0 x n.listed) n.field-0-1-is) in
    let asks = subst (λ (o : Option Ask). (held : Lists) (work : List Reading) → frames.AreFramesOf None e.readings.frames held work → asked_of held o ≡ asked_in work) is c.ask.ensures.stands in
    let column : e.in_line ≡ e'.in_line = sym c.seek.ensures.column in
    let ts = kept_list_of n.listed e.input.builds in
    let none = starts_uncalled e.input.call (asked e) c.requires.starts in
    let unopened = c.requires.none_opened in
    let room = sym c.file_room.ensures ∙ none_of c.file_room.result c.in_default-file_room.not-Some in
    let rs' = c.open.new.self in
    let o = c.open.ensures in
    let text = c.spelt.result.now in
    let e2 : Engine = record e' { input = c.open_file.new.self } in
    let is2 = ap (λ (x : Stored). record e' { input = x }) c.open_file.ensures in
    let opens = match_true _ _ c.in_ok-open.field-0 c.if-branch.true c.in_ok-open.ensures.answer in
    reads_found text rs rs' _ _ (λ (all left : Rests). RuledTo rs e s rs' e2 s all left (Ok ruled.Free)) o.open o.knows o.file o.cause.later o.writes o.cause.later_wants opens
    (λ left sizes f book stands tied. by_name sizes e a asks (λ (bk : Book). CameOn sizes (whole_state (rests_before_opening text true left) e bk) rs' e2 left (world f s e.in_line) (world f s e'.in_line) 0)
    (λ bk r rest asked st.
    let sought = i.ensures.rule sizes (world f s e.in_line) bk r rest st in
    let unopened' = i.ensures.files ∙ unopened in
    record {
      came = subst (λ (y : Bool). Came sizes (whole_state (rests_before_opening text true left) e (with_work (r ∷ rest) bk)) e2 left (world f s e.in_line) (world f s y) 0) column
          (subst (λ (y : List ℕ). Came sizes (whole_state (rests_before_opening y true left) e (with_work (r ∷ rest) bk)) e2 left (world f s e.in_line) (world f s e.in_line) 0) (sym (c.spelt.ensures ∙ sought.spells))
          (found sizes e n.field-0-0 n.back ts unopened bk r rest asked left e' (world f s e.in_line) i.count unopened' room sought e2 is2 (next_stands e' e2 is2 sizes (with_work rest bk) (all_of sizes e' (with_work rest bk) sought.stands))));
      tied = next_tied e' e2 is2 e rs rs' _ unopened' (sought_count sizes e e' (with_work (r ∷ rest) bk) (with_work rest bk) (world f s e.in_line) n.back (page_of e bk) (file_name (character_codes ts)) (file_name (character_codes ts)) i.count sought) (sought.stands.sound.sized.input ∙ sym st.sound.sized.input) opens.after tied;
    })
    book none stands)

pub returns-in_err-refuse_spelt-clause-rule : goal.returns-in_err-refuse_spelt-clause-rule
returns-in_err-refuse_spelt-clause-rule g c =
    let n = c.in-Some-ActsOn-default-StartInput-default in
    let rs = c.args.readers.now in
    let e = c.args.engine.now in
    let e' = c.seek.new.engine in
    let s = g.S.Sink.told c.args.out.now in
    let i = c.in_ok-count in
    let a : Ask = ask.ActsOn n.field-0-0 (effect.StartInput n.back) n.listed in
    let is : c.ask.result ≡ Some a = n.is ∙ ap (λ (x : Ask). Some x) (n.field-0-is ∙ ap (λ (x : Effect). ask.ActsOn n.field-0-0 x n.listed) n.field-0-1-is) in
    let asks = subst (λ (o : Option Ask). (held : Lists) (work : List Reading) → frames.AreFramesOf None e.readings.frames held work → asked_of held o ≡ asked_in work) is c.ask.ensures.stands in
    let column : e.in_line ≡ e'.in_line = sym c.seek.ensures.column in
    let ts = kept_list_of n.listed e.input.builds in
    let none = starts_uncalled e.input.call (asked e) c.requires.starts in
    let unopened = c.requires.none_opened in
    let room = sym c.file_room.ensures ∙ none_of c.file_room.result c.in_default-file_room.not-Some in
    let k = c.in_err-refuse_spelt in
    let b = k.field-0.0 in
    let rs' = c.open.new.self in
    let o = c.open.ensures in
    let text = c.spelt.result.now in
    let e2 = c.refuse_spelt.new.self in
    let s2 = g.S.Sink.told c.refuse_spelt.new.out in
    let same = c.refuse_spelt.ensures.frames in
    let misses = match_false _ _ c.in_ok-open.field-0 c.if-branch.false c.in_ok-open.ensures.answer in
    let j = step_count (needs_step e) in
    reads_missing text rs rs' _ _ (λ (all left : Rests). RuledTo rs e s rs' e2 s2 all left c.from_residual-in_err-refuse_spelt.result) o.open o.knows o.file o.cause.later o.writes o.cause.later_wants misses.0 misses.1
    (λ left. of_err c.from_residual-in_err-refuse_spelt.result (early.Broken b) (λ (x : Result Ruled Early). RuledTo rs e s rs' e2 s2 (rests_before_opening text false left) left x) c.from_residual-in_err-refuse_spelt.ensures.1
    (λ sizes f book stands tied. by_name sizes e a asks (λ (bk : Book). CutBy sizes (whole_state (rests_before_opening text false left) e bk) j e2 left (world f s e.in_line) (world f s2 e2.in_line) b)
    (λ bk r rest asked st.
    let w = world f s e'.in_line in
    let w' = world f s2 e2.in_line in
    let at : Book = with_work (r ∷ rest) bk in
    let behind : Book = with_work rest bk in
    let sought = i.ensures.rule sizes w bk r rest st in
    subst (λ (y : Bool). CutBy sizes (whole_state (rests_before_opening text false left) e at) j e2 left (world f s y) w' b) (sym column)
    (subst (λ (y : List ℕ). CutBy sizes (whole_state (rests_before_opening y false left) e at) j e2 left w w' b) (sym (c.spelt.ensures ∙ sought.spells))
    (missing_cut sizes e n.field-0-0 n.back ts unopened bk r rest asked left e' w i.count (i.ensures.files ∙ unopened) room sought e2 w' b j
    (subst (λ (y : List ℕ). Cuts sizes (state_of e' behind) e2 behind w w' (unless_found (page_of e' behind) y None) b) sought.spells (k.ensures.err sizes f behind sought.stands.sound.sized.few_reports))
    (frames_near sizes e' e2 behind b same sought.stands))))
    book none stands))

pub returns-clause-rule : goal.returns-clause-rule
returns-clause-rule g c =
    let n = c.in-Some-ActsOn-default-StartInput-default in
    let rs = c.args.readers.now in
    let e = c.args.engine.now in
    let e' = c.seek.new.engine in
    let s = g.S.Sink.told c.args.out.now in
    let i = c.in_ok-count in
    let a : Ask = ask.ActsOn n.field-0-0 (effect.StartInput n.back) n.listed in
    let is : c.ask.result ≡ Some a = n.is ∙ ap (λ (x : Ask). Some x) (n.field-0-is ∙ ap (λ (x : Effect). ask.ActsOn n.field-0-0 x n.listed) n.field-0-1-is) in
    let asks = subst (λ (o : Option Ask). (held : Lists) (work : List Reading) → frames.AreFramesOf None e.readings.frames held work → asked_of held o ≡ asked_in work) is c.ask.ensures.stands in
    let column : e.in_line ≡ e'.in_line = sym c.seek.ensures.column in
    let ts = kept_list_of n.listed e.input.builds in
    let none = starts_uncalled e.input.call (asked e) c.requires.starts in
    let unopened = c.requires.none_opened in
    let room = sym c.file_room.ensures ∙ none_of c.file_room.result c.in_default-file_room.not-Some in
    let k = c.in_ok-refuse_spelt in
    let end = k.field-0 in
    let rs' = c.open.new.self in
    let o = c.open.ensures in
    let text = c.spelt.result.now in
    let e2 = c.refuse_spelt.new.self in
    let s2 = g.S.Sink.told c.refuse_spelt.new.out in
    let same = c.refuse_spelt.ensures.frames in
    let misses = match_false _ _ c.in_ok-open.field-0 c.if-branch.false c.in_ok-open.ensures.answer in
    let j = step_count (needs_step e) in
    reads_missing text rs rs' _ _ (λ (all left : Rests). RuledTo rs e s rs' e2 s2 all left (Ok (ruled.Halted end))) o.open o.knows o.file o.cause.later o.writes o.cause.later_wants misses.0 misses.1
    (λ left sizes f book stands tied. by_name sizes e a asks (λ (bk : Book). Stops sizes (whole_state (rests_before_opening text false left) e bk) e2 left (world f s e.in_line) (world f s2 e2.in_line) j end)
    (λ bk r rest asked st.
    let w = world f s e'.in_line in
    let w' = world f s2 e2.in_line in
    let at : Book = with_work (r ∷ rest) bk in
    let behind : Book = with_work rest bk in
    let sought = i.ensures.rule sizes w bk r rest st in
    subst (λ (y : Bool). Stops sizes (whole_state (rests_before_opening text false left) e at) e2 left (world f s y) w' j end) (sym column)
    (subst (λ (y : List ℕ). Stops sizes (whole_state (rests_before_opening y false left) e at) e2 left w w' j end) (sym (c.spelt.ensures ∙ sought.spells))
    (missing_halts sizes e n.field-0-0 n.back ts unopened bk r rest asked left e' w i.count (i.ensures.files ∙ unopened) room sought e2 w' end j
    (subst (λ (y : List ℕ). Halts sizes (state_of e' behind) e2 behind w w' (unless_found (page_of e' behind) y None) end 0) sought.spells (k.ensures.run sizes f behind))
    (frames_by sizes e' e2 behind same sought.stands))))
    book none stands)
