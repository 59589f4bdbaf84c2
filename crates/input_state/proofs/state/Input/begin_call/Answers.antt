use Rattle.std.proofs.Common.{◌∙◌, ◌∷◌, [], ap}
use Rattle.plain_tokens.specs.Tables.{lists_words, memory, refused}
use Rattle.input_state.specs.Calls.{begun_lists, text_of}
use Rattle.input_state.specs.Stored.{Stored, words}
use Rattle.input_state.proofs.Joined.{keeps, memory_refused, refused_same}
use Rattle.input_state.proofs.state.Input.begin_call.Goals as goal

pub returns-clause-keeps : goal.returns-clause-keeps
returns-clause-keeps c =
    let i = c.self.inside in
    keeps i.held c.begin_call.new.self i.buffer.items i.buffer.items i.files i.files c.args.self.now c.self.view_is c.begin_call.ensures.keeps

pub returns-clause-refused : goal.returns-clause-refused
returns-clause-refused c =
    let i = c.self.inside in
    let s = c.args.self.now in
    let same =
    memory_refused i.held i.buffer.items i.files s c.self.view_is (lists_words (begun_lists (text_of i.held.lists i.held.groups.now.meanings c.args.name)))
    ∙ ap (λ (v : Stored). refused s.sizes (memory (lists_words (begun_lists (text_of v.lists v.groups.now.meanings c.args.name))) (words s) ∷ [])) c.self.view_is in
    refused_same c.begin_call.result _ _ same c.begin_call.ensures.refused
