use Rattle.std.proofs.Common.{◌+◌, ◌≤◌, ℕ, length, refl, subst}
use Rattle.std.specs.Prelude.{OnOk, IfErr}
use Rattle.input_state.specs.HeldAppends.{held_appended}
use Rattle.input_state.specs.InputViews.{stored_of}
use Rattle.input_state.specs.AtLocations.{AppendsShort, location_tokens, with_appended}
use Rattle.input_state.specs.Stored.{Stored, words}
use Rattle.std.proofs.lemmas.Result.{IfErr-weaker}
use Rattle.input_state.proofs.Joined.{keeps, words_are_held, stops_short}
use Rattle.input_state.proofs.state.Input.copy_list.Goals as goal

pub returns-clause-keeps : goal.returns-clause-keeps
returns-clause-keeps c =
    let i = c.self.inside in
    keeps i.held c.copy_list.new.self i.buffer.items i.buffer.items i.files i.files c.args.self.now c.self.view_is c.copy_list.ensures.keeps

pub returns-clause-fits : goal.returns-clause-fits
returns-clause-fits c =
    let i = c.self.inside in
    let h = i.held in
    subst (λ (v : Stored). OnOk c.copy_list.result (words v + length (location_tokens v.lists v.groups c.args.loc) ≤ v.sizes.main_memory_size)) c.self.view_is
    (subst (λ (n : ℕ). OnOk c.copy_list.result (n + length (location_tokens h.lists h.groups c.args.loc) ≤ h.sizes.main_memory_size)) (words_are_held h i.buffer.items i.files (stored_of h i.buffer.items i.files) refl) c.copy_list.ensures.fits)

pub returns-clause-err : goal.returns-clause-err
returns-clause-err c =
    let i = c.self.inside in
    let h = i.held in
    let new = c.copy_list.new.self in
    subst (λ (v : Stored). IfErr c.copy_list.result (λ full. AppendsShort with_appended (location_tokens v.lists v.groups c.args.loc) v (stored_of new i.buffer.items i.files) full)) c.self.view_is
    (IfErr-weaker c.copy_list.result _ _ (stops_short h new i.buffer.items i.files held_appended with_appended (λ front lists. refl) (location_tokens h.lists h.groups c.args.loc)) c.copy_list.ensures.err)
