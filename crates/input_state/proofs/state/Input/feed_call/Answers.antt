use Rattle.std.proofs.Common.{◌≡◌, ◌+◌, ◌≤◌, ◌∷◌, [], ℕ, Some, length, refl, subst}
use Rattle.std.specs.Prelude.{OnOk, IfErr}
use Rattle.plain_tokens.specs.Tables.{memory, refused}
use Rattle.input_state.specs.Calls.{text_of}
use Rattle.input_state.specs.CallFeeds.{growth}
use Rattle.input_state.specs.InputViews.{stored_of}
use Rattle.input_state.specs.Stored.{Stored, words}
use Rattle.input_state.proofs.Joined.{keeps, words_are_held}
use Rattle.input_state.proofs.state.Input.feed_call.Goals as goal

pub returns-clause-keeps : goal.returns-clause-keeps
returns-clause-keeps c =
    let i = c.self.inside in
    keeps i.held c.feed_call.new.self i.buffer.items i.buffer.items i.files i.files c.args.self.now c.self.view_is c.feed_call.ensures.keeps

pub returns-clause-fits : goal.returns-clause-fits
returns-clause-fits c =
    let i = c.self.inside in
    let token = c.args.token in
    let h = i.held in
    subst (λ (v : Stored). OnOk c.feed_call.result (words v + length (growth (text_of v.lists v.groups.now.meanings) token v.call) ≤ v.sizes.main_memory_size)) c.self.view_is
    (subst (λ (n : ℕ). OnOk c.feed_call.result (n + length (growth (text_of h.lists h.groups.now.meanings) token h.call) ≤ h.sizes.main_memory_size)) (words_are_held h i.buffer.items i.files (stored_of h i.buffer.items i.files) refl) c.feed_call.ensures.fits)

pub returns-clause-full : goal.returns-clause-full
returns-clause-full c =
    let i = c.self.inside in
    let n = c.feed_call.new.self in
    subst (λ (w : ℕ). IfErr c.feed_call.result (λ full. refused n.sizes (memory 1 w ∷ []) ≡ Some full)) (words_are_held n i.buffer.items i.files (stored_of n i.buffer.items i.files) refl) c.feed_call.ensures.full
