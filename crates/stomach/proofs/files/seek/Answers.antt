use Rattle.std.proofs.Common.{List, [], ◌∷◌, ◌++◌, ap, ◌∙◌, subst}
use Rattle.tex_defs.specs.declared.Token.{Token}
use Rattle.plain_tokens.specs.Tokens.{character_codes}
use Rattle.command_words.specs.Words.{file_name}
use Rattle.reading_frames.specs.Views.{kept_list_of}
use Rattle.plain_machine.specs.States.{Spelt}
use Rattle.plain_machine.specs.Does.{Did}
use Rattle.input_state.specs.Stored.{Stored}
use Rattle.engine_state.specs.declared.engine.Engine.{Engine}
use Rattle.engine_state.specs.Book.{with_work}
use Rattle.engine_state.specs.Rules.{Cuts}
use Rattle.engine_state.specs.Stands.{state_of}
use Rattle.plain_machine.specs.Weights.{pending_weight}
use Rattle.engine_state.proofs.Counting.{counts_of}
use Rattle.engine_state.proofs.Joining.{same_err}
use Rattle.engine_state.proofs.CuttingReadings.{stands_in}
use Rattle.engine_state.proofs.AtLocations.{frames_join}
use Rattle.gullet.proofs.JobName.{name_stands}
use Rattle.stomach.proofs.SpeltNames.{spelt_frames, spelt_stands}
use Rattle.stomach.proofs.FilesSought.{behind_name, ungiven_in, unspelt_in, sought, sought_name, sought_room, sought_next, sought_lighter}
use Rattle.stomach.proofs.files.seek.Goals as goal

-- CUT OFF

pub returns-in_err-put_back-clause-err : goal.returns-in_err-put_back-clause-err
returns-in_err-put_back-clause-err c =
    let e = c.args.engine.now in let e1 = c.put_back.new.self in let i = c.in_err-put_back in let name = file_name (character_codes (kept_list_of c.args.listed e.input.builds)) in
    same_err c.from_residual.result i.field-0.0 _ c.from_residual.ensures.1
    (λ sizes w book r rs more st. let at = with_work (r ∷ rs) book in
    ungiven_in sizes e e1 e1 book w r rs c.args.back name more i.field-0.0
    (stands_in sizes e e1 at w w _ i.field-0.0 (i.ensures.err sizes w at (Spelt name ∷ behind_name ++ more) (counts_of sizes e at st) st.idle) c.put_back.ensures.frames st))

pub returns-in_err-count-clause-err : goal.returns-in_err-count-clause-err
returns-in_err-count-clause-err c =
    let e = c.args.engine.now in let e1 = c.put_back.new.self in let e2 = c.spell_file.new.engine in let p = c.put_back.ensures in let k = c.in_ok-put_back.ensures in
    let i = c.in_err-count in let b = i.field-0.0 in let name = file_name (character_codes (kept_list_of c.args.listed e.input.builds)) in
    same_err c.from_residual-in_err-count.result b _ c.from_residual-in_err-count.ensures.1
    (λ sizes w book r rs more st. let at = with_work (r ∷ rs) book in
    let st1 = name_stands sizes e e1 at p.frames p.others p.store k.idle st in
    unspelt_in sizes e e1 e2 book w r rs c.args.back name (k.did sizes w at (counts_of sizes e at st) st.idle) more b
    (stands_in sizes e1 e2 at w w _ b
    (subst (λ (bs : List (List Token)). Cuts sizes (state_of e1 at) e2 at w w (Spelt (file_name (character_codes (kept_list_of c.args.listed bs))) ∷ behind_name ++ more) b) p.frames.lists
    (i.ensures.err sizes w at (behind_name ++ more) st1.sound))
    (spelt_frames e1 e2 c.spell_file.ensures.only) st1))

-- DONE

pub returns-clause-rule : goal.returns-clause-rule
returns-clause-rule c =
    let e = c.args.engine.now in let e1 = c.put_back.new.self in let e2 = c.spell_file.new.engine in let e3 = c.close_reading.new.self in let i = c.end_token_lists.new.self in
    let p = c.put_back.ensures in let k = c.in_ok-put_back.ensures in let n = c.in_ok-count in let only = c.spell_file.ensures.only in let l = c.close_reading.ensures in
    let name = file_name (character_codes (kept_list_of c.args.listed e.input.builds)) in
    λ sizes w book r rs st. let at = with_work (r ∷ rs) book in
    let st1 = name_stands sizes e e1 at p.frames p.others p.store k.idle st in
    let st2 = spelt_stands sizes e1 e2 at only st1 in
    let spells : Did sizes (state_of e1 at) (state_of e2 at) w w (Spelt name ∷ []) =
    subst (λ (bs : List (List Token)). Did sizes (state_of e1 at) (state_of e2 at) w w (Spelt (file_name (character_codes (kept_list_of c.args.listed bs))) ∷ [])) p.frames.lists (n.ensures.did sizes w at st1.sound) in
    sought sizes e e1 e2 book w r rs c.args.back name (k.did sizes w at (counts_of sizes e at st) st.idle) e3 i n.count spells (l.state sizes book r rs st2) (l.stands sizes book r rs st2)
    c.end_token_lists.ensures.after c.end_token_lists.ensures.keeps
    (sought_name e2 e3 i (l.same st2.uncalled) c.end_token_lists.ensures.after n.count l.buffer ∙ (n.ensures.name ∙ ap (λ (bs : List (List Token)). file_name (character_codes (kept_list_of c.args.listed bs))) p.frames.lists))
    (sought_room e2 e3 i (l.same st2.uncalled) c.end_token_lists.ensures.after e1 n.count only n.ensures.room)

pub returns-clause-light : goal.returns-clause-light
returns-clause-light c =
    let e = c.args.engine.now in let e1 = c.put_back.new.self in let e2 = c.spell_file.new.engine in let only = c.spell_file.ensures.only in let p = c.put_back.ensures in let l = c.close_reading.ensures in
    let frames = frames_join e e1 e2 p.frames (spelt_frames e1 e2 only) in
    λ call effect asks. sought_lighter e2 c.close_reading.new.self c.end_token_lists.new.self (l.same (frames.call ∙ c.requires.uncalled)) c.end_token_lists.ensures.after e call effect c.requires.uncalled
    frames (ap (λ (x : Engine). pending_weight x.input.pending) only ∙ p.light) asks l.frames l.weight

pub returns-clause-files : goal.returns-clause-files
returns-clause-files c =
    let uncalled = ap (λ (x : Engine). x.input.call) c.spell_file.ensures.only ∙ (c.put_back.ensures.frames.call ∙ c.requires.uncalled) in
    sought_next c.spell_file.new.engine c.close_reading.new.self c.end_token_lists.new.self (c.close_reading.ensures.same uncalled) c.end_token_lists.ensures.after
    ∙ (ap (λ (x : Engine). x.input.pending.next) c.spell_file.ensures.only ∙ c.put_back.ensures.next)

pub returns-clause-column : goal.returns-clause-column
returns-clause-column c = c.close_reading.ensures.others.in_line ∙ (ap (λ (x : Engine). x.in_line) c.spell_file.ensures.only ∙ c.put_back.ensures.others.in_line)

pub returns-clause-idle : goal.returns-clause-idle
returns-clause-idle c =
    ap (λ (x : Stored). x.making) c.end_token_lists.ensures.after ∙ (c.close_reading.ensures.idle ∙ (ap (λ (x : Engine). x.input.making) c.spell_file.ensures.only ∙ c.in_ok-put_back.ensures.idle))
