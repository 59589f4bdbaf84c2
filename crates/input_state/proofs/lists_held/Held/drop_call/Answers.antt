use Rattle.std.proofs.Common.{◌≡◌, ◌∙◌, List, Option, sym, subst}
use Rattle.token_lists.specs.Table.{Entry}
use Rattle.token_lists.specs.Accounts.{Moves, Keeps, none}
use Rattle.input_state.specs.declared.gathering.Gathering as code
use Rattle.input_state.specs.declared.gathering.Gathering.TheVariants as call
use Rattle.input_state.specs.HeldViews.{call_holds}
use Rattle.input_state.proofs.Recalling.{dropped_sound, dropped_view, dropped_macros, gathering_owned}
use Rattle.input_state.proofs.lists_held.Held.drop_call.Goals as goal

gone : (old new : List (Option Entry)) (k j : code.Gathering) → k ≡ j → Moves old new (call_holds j) none → Moves old new (call_holds k) none
gone old new k j is moves = subst (λ (x : code.Gathering). Moves old new (call_holds x) none) (sym is) moves

stay : (old new : List (Option Entry)) (k j : code.Gathering) → k ≡ j → Keeps old new (call_holds j) → Keeps old new (call_holds k)
stay old new k j is keeps = subst (λ (x : code.Gathering). Keeps old new (call_holds x)) (sym is) keeps

pub abandon-requires : goal.abandon-requires
abandon-requires c = gathering_owned c.self.inside.lists c.self.inside.table c.self.inside.call c.in-Gathers._name c.in-Gathers.scan (sym c.replace.ensures.value ∙ c.in-Gathers.is) c.self.invariant.call

pub invariant_of-self-in-Gathers : goal.invariant_of-self-in-Gathers
invariant_of-self-in-Gathers c =
    let i = c.self.inside in
    let k = call.Gathers c.in-Gathers._name c.in-Gathers.scan in
    let is : i.call ≡ k = sym c.replace.ensures.value ∙ c.in-Gathers.is in
    dropped_sound i.lists c.abandon.new.lists i.stack i.making i.builds.items i.table i.call c.replace.new.dest i.sizes _ c.self.invariant c.replace.ensures.after (gone i.lists c.abandon.new.lists i.call k is c.abandon.ensures.account) (stay i.lists c.abandon.new.lists i.call k is c.abandon.ensures.kept) c.abandon.ensures.length

pub returns-in-Gathers-clause-after : goal.returns-in-Gathers-clause-after
returns-in-Gathers-clause-after c =
    let i = c.self.inside in
    let k = call.Gathers c.in-Gathers._name c.in-Gathers.scan in
    let is : i.call ≡ k = sym c.replace.ensures.value ∙ c.in-Gathers.is in
    dropped_view i.lists c.abandon.new.lists i.stack i.making i.builds.items i.table i.call c.replace.new.dest i.sizes _ c.self.invariant c.replace.ensures.after (gone i.lists c.abandon.new.lists i.call k is c.abandon.ensures.account) (stay i.lists c.abandon.new.lists i.call k is c.abandon.ensures.kept) c.abandon.ensures.length c.args.self.now c.self.view_is

pub returns-in-Gathers-clause-keeps : goal.returns-in-Gathers-clause-keeps
returns-in-Gathers-clause-keeps c =
    let i = c.self.inside in
    let k = call.Gathers c.in-Gathers._name c.in-Gathers.scan in
    let is : i.call ≡ k = sym c.replace.ensures.value ∙ c.in-Gathers.is in
    dropped_macros i.lists c.abandon.new.lists i.stack i.making i.builds.items i.table i.call c.replace.new.dest i.sizes _ c.self.invariant c.replace.ensures.after (gone i.lists c.abandon.new.lists i.call k is c.abandon.ensures.account) (stay i.lists c.abandon.new.lists i.call k is c.abandon.ensures.kept) c.abandon.ensures.length c.args.self.now c.self.view_is

pub invariant_of-self-in-Gathered : goal.invariant_of-self-in-Gathered
invariant_of-self-in-Gathered c =
    let i = c.self.inside in
    let k = call.Gathered c.in-Gathered._name c.in-Gathered.args in
    let is : i.call ≡ k = sym c.replace.ensures.value ∙ c.in-Gathered.is in
    dropped_sound i.lists c.release.new.lists i.stack i.making i.builds.items i.table i.call c.replace.new.dest i.sizes _ c.self.invariant c.replace.ensures.after (gone i.lists c.release.new.lists i.call k is c.release.ensures.account) (stay i.lists c.release.new.lists i.call k is c.release.ensures.kept) c.release.ensures.size

pub returns-in-Gathered-clause-after : goal.returns-in-Gathered-clause-after
returns-in-Gathered-clause-after c =
    let i = c.self.inside in
    let k = call.Gathered c.in-Gathered._name c.in-Gathered.args in
    let is : i.call ≡ k = sym c.replace.ensures.value ∙ c.in-Gathered.is in
    dropped_view i.lists c.release.new.lists i.stack i.making i.builds.items i.table i.call c.replace.new.dest i.sizes _ c.self.invariant c.replace.ensures.after (gone i.lists c.release.new.lists i.call k is c.release.ensures.account) (stay i.lists c.release.new.lists i.call k is c.release.ensures.kept) c.release.ensures.size c.args.self.now c.self.view_is

pub returns-in-Gathered-clause-keeps : goal.returns-in-Gathered-clause-keeps
returns-in-Gathered-clause-keeps c =
    let i = c.self.inside in
    let k = call.Gathered c.in-Gathered._name c.in-Gathered.args in
    let is : i.call ≡ k = sym c.replace.ensures.value ∙ c.in-Gathered.is in
    dropped_macros i.lists c.release.new.lists i.stack i.making i.builds.items i.table i.call c.replace.new.dest i.sizes _ c.self.invariant c.replace.ensures.after (gone i.lists c.release.new.lists i.call k is c.release.ensures.account) (stay i.lists c.release.new.lists i.call k is c.release.ensures.kept) c.release.ensures.size c.args.self.now c.self.view_is

pub invariant_of-self-in-Stopped : goal.invariant_of-self-in-Stopped
invariant_of-self-in-Stopped c =
    let i = c.self.inside in
    let k = call.Stopped c.in-Stopped._name c.in-Stopped._end c.in-Stopped.scan in
    let is : i.call ≡ k = sym c.replace.ensures.value ∙ c.in-Stopped.is in
    dropped_sound i.lists c.abandon-in-Stopped.new.lists i.stack i.making i.builds.items i.table i.call c.replace.new.dest i.sizes _ c.self.invariant c.replace.ensures.after (gone i.lists c.abandon-in-Stopped.new.lists i.call k is c.abandon-in-Stopped.ensures.account) (stay i.lists c.abandon-in-Stopped.new.lists i.call k is c.abandon-in-Stopped.ensures.kept) c.abandon-in-Stopped.ensures.length

pub returns-in-Stopped-clause-after : goal.returns-in-Stopped-clause-after
returns-in-Stopped-clause-after c =
    let i = c.self.inside in
    let k = call.Stopped c.in-Stopped._name c.in-Stopped._end c.in-Stopped.scan in
    let is : i.call ≡ k = sym c.replace.ensures.value ∙ c.in-Stopped.is in
    dropped_view i.lists c.abandon-in-Stopped.new.lists i.stack i.making i.builds.items i.table i.call c.replace.new.dest i.sizes _ c.self.invariant c.replace.ensures.after (gone i.lists c.abandon-in-Stopped.new.lists i.call k is c.abandon-in-Stopped.ensures.account) (stay i.lists c.abandon-in-Stopped.new.lists i.call k is c.abandon-in-Stopped.ensures.kept) c.abandon-in-Stopped.ensures.length c.args.self.now c.self.view_is

pub returns-in-Stopped-clause-keeps : goal.returns-in-Stopped-clause-keeps
returns-in-Stopped-clause-keeps c =
    let i = c.self.inside in
    let k = call.Stopped c.in-Stopped._name c.in-Stopped._end c.in-Stopped.scan in
    let is : i.call ≡ k = sym c.replace.ensures.value ∙ c.in-Stopped.is in
    dropped_macros i.lists c.abandon-in-Stopped.new.lists i.stack i.making i.builds.items i.table i.call c.replace.new.dest i.sizes _ c.self.invariant c.replace.ensures.after (gone i.lists c.abandon-in-Stopped.new.lists i.call k is c.abandon-in-Stopped.ensures.account) (stay i.lists c.abandon-in-Stopped.new.lists i.call k is c.abandon-in-Stopped.ensures.kept) c.abandon-in-Stopped.ensures.length c.args.self.now c.self.view_is
