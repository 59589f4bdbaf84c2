use Rattle.std.proofs.Common.{◌+◌, ◌≤◌, ℕ, length, refl, subst, map}
use Rattle.std.specs.Prelude.{OnOk, IfErr}
use Rattle.equivalents.specs.Cases.{case_codes, case_changed}
use Rattle.input_state.specs.HeldAppends.{held_appended_made}
use Rattle.input_state.specs.HeldLists.{first_list}
use Rattle.input_state.specs.InputViews.{stored_of}
use Rattle.input_state.specs.AtLocations.{AppendsShort, with_appended_made}
use Rattle.input_state.specs.Stored.{Stored, words}
use Rattle.std.proofs.lemmas.Result.{IfErr-weaker}
use Rattle.input_state.proofs.Joined.{keeps, words_are_held, stops_short}
use Rattle.input_state.proofs.state.Input.grow_changed.Goals as goal

pub returns-clause-keeps : goal.returns-clause-keeps
returns-clause-keeps c =
    let i = c.self.inside in
    keeps i.held c.grow_changed.new.self i.buffer.items i.buffer.items i.files i.files c.args.self.now c.self.view_is c.grow_changed.ensures.keeps

pub returns-clause-fits : goal.returns-clause-fits
returns-clause-fits c =
    let i = c.self.inside in
    let h = i.held in
    subst (λ (v : Stored). OnOk c.grow_changed.result (words v + length (map (case_changed (case_codes c.args.upper v.groups.now)) (first_list v.builds)) ≤ v.sizes.main_memory_size)) c.self.view_is
    (subst (λ (n : ℕ). OnOk c.grow_changed.result (n + length (map (case_changed (case_codes c.args.upper h.groups.now)) (first_list h.builds)) ≤ h.sizes.main_memory_size)) (words_are_held h i.buffer.items i.files (stored_of h i.buffer.items i.files) refl) c.grow_changed.ensures.fits)

pub returns-clause-err : goal.returns-clause-err
returns-clause-err c =
    let i = c.self.inside in
    let h = i.held in
    let new = c.grow_changed.new.self in
    subst (λ (v : Stored). IfErr c.grow_changed.result (λ full. AppendsShort with_appended_made (map (case_changed (case_codes c.args.upper v.groups.now)) (first_list v.builds)) v (stored_of new i.buffer.items i.files) full)) c.self.view_is
    (IfErr-weaker c.grow_changed.result _ _ (stops_short h new i.buffer.items i.files held_appended_made with_appended_made (λ front lists. refl) (map (case_changed (case_codes c.args.upper h.groups.now)) (first_list h.builds))) c.grow_changed.ensures.err)
