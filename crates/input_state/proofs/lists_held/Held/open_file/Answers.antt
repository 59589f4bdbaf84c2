use Rattle.std.proofs.Common.{◌≡◌, ◌∙◌, ◌∷◌, [], Option, None, Some, ap, subst}
use Rattle.std.specs.Prelude.{MatchResult}
use Rattle.tex_defs.specs.declared.Full.{Full}
use Rattle.plain_tokens.specs.Tables.{refused}
use Rattle.input_stack.specs.Pending.{used_levels}
use Rattle.input_stack.specs.View.{pending}
use Rattle.input_state.specs.HeldLists.{HeldLists, level_held}
use Rattle.input_state.specs.HeldViews.{named}
use Rattle.input_state.proofs.Levels.{levels_used}
use Rattle.input_state.proofs.Refusing.{levels_refused}
use Rattle.input_state.proofs.Opening.{open_sound, open_macros, open_ok, open_err}
use Rattle.input_state.proofs.lists_held.Held.open_file.Goals as goal

pub invariant_of-self : goal.invariant_of-self
invariant_of-self c =
    let i = c.self.inside in
    let e = c.push_file.ensures in
    open_sound i.lists c.push_file.new.lists i.stack c.push_file.new.self i.making i.builds.items (named i.table i.call) i.sizes _ c.self.invariant e.stands e.account e.kept e.lasting e.size e.parameter_size c.args.self.now c.self.view_is c.requires.without_ended _ c.args.line c.push_file.result e.ok e.err

pub returns-clause-refused : goal.returns-clause-refused
returns-clause-refused c =
    let i = c.self.inside in
    let same =
    levels_refused i.sizes (used_levels (pending i.lists i.stack)) _ i.stack.size (levels_used i.lists (pending i.lists i.stack)) c.self.invariant.sized.levels
    ∙ ap (λ (v : HeldLists). refused v.sizes (level_held v ∷ [])) c.self.view_is in
    subst (λ (o : Option Full). MatchResult c.push_file.result (λ _. o ≡ None) (λ f. o ≡ Some f)) same c.push_file.ensures.refused

pub returns-clause-ok : goal.returns-clause-ok
returns-clause-ok c =
    let i = c.self.inside in
    let e = c.push_file.ensures in
    open_ok i.lists c.push_file.new.lists i.stack c.push_file.new.self i.making i.builds.items (named i.table i.call) i.sizes _ c.self.invariant e.stands e.account e.kept e.lasting e.size e.parameter_size c.args.self.now c.self.view_is c.requires.without_ended _ c.args.line c.push_file.result e.ok e.err

pub returns-clause-err : goal.returns-clause-err
returns-clause-err c =
    let i = c.self.inside in
    let e = c.push_file.ensures in
    open_err i.lists c.push_file.new.lists i.stack c.push_file.new.self i.making i.builds.items (named i.table i.call) i.sizes _ c.self.invariant e.stands e.account e.kept e.lasting e.size e.parameter_size c.args.self.now c.self.view_is c.requires.without_ended _ c.args.line c.push_file.result e.ok e.err

pub returns-clause-keeps : goal.returns-clause-keeps
returns-clause-keeps c =
    let i = c.self.inside in
    let e = c.push_file.ensures in
    open_macros i.lists c.push_file.new.lists i.stack c.push_file.new.self i.making i.builds.items (named i.table i.call) i.sizes _ c.self.invariant e.stands e.account e.kept e.lasting e.size e.parameter_size c.args.self.now c.self.view_is c.requires.without_ended _ c.args.line c.push_file.result e.ok e.err
