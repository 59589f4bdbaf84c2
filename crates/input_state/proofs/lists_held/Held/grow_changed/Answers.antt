use Rattle.std.proofs.Common.{◌-◌, ◌++◌, [], ◌∷◌, List, Option, take, map, reverse, refl, sym, ap, ◌∙◌, subst, arith}
use Rattle.tex_defs.specs.declared.Token.{Token}
use Rattle.token_lists.specs.declared.Build.{Build}
use Rattle.token_lists.specs.Ids.{build_id, IsBuilding}
use Rattle.token_lists.specs.Table.{tokens_at}
use Rattle.std.proofs.lemmas.List.Elements.{All-head}
use Rattle.equivalents.specs.Cases.{case_codes, case_changed}
use Rattle.input_state.specs.Appends.{IsAppendedInPart}
use Rattle.input_state.specs.HeldLists.{HeldLists, first_list}
use Rattle.input_state.specs.HeldViews.{named, all_builds, IsShared}
use Rattle.input_state.proofs.Innermost.{some_build, count_some, last_below, last_is, last_held, last_tokens}
use Rattle.input_state.proofs.ListViews.{reverse_push}
use Rattle.input_state.proofs.Lengthening.{build_apart, changed_text, if_both, made_sound, made_macros, made_grown, made_fits, made_short}
use Rattle.input_state.proofs.Sounds.{ok_of}
use Rattle.input_state.proofs.lists_held.Held.grow_changed.Goals as goal

pub overflow_sub-len : goal.overflow_sub-len
overflow_sub-len c =
    let i = c.self.inside in
    let some = some_build i.lists i.builds.items c.args.self.now.builds (ap (λ (w : HeldLists). w.builds) c.self.view_is) c.requires.some in
    count_some i.builds.items c.len.result i.builds.len c.len.ensures i.builds.ok.0 some

pub index-requires : goal.index-requires
index-requires c =
    let i = c.self.inside in
    let some = some_build i.lists i.builds.items c.args.self.now.builds (ap (λ (w : HeldLists). w.builds) c.self.view_is) c.requires.some in
    last_below i.builds.items c.len.result i.builds.len c.len.ensures i.builds.ok.0 some

pub at_first_built-from-requires : goal.at_first_built-from-requires
at_first_built-from-requires c =
    let i = c.self.inside in
    let some = some_build i.lists i.builds.items c.args.self.now.builds (ap (λ (w : HeldLists). w.builds) c.self.view_is) c.requires.some in
    last_held i.builds.items c.len.result i.builds.len c.len.ensures i.builds.ok.0 some c.index.result.now c.index.ensures i.lists i.making c.self.invariant.shared.building

pub append_from-grown-requires-clause-building : goal.append_from-grown-requires-clause-building
append_from-grown-requires-clause-building c =
    let i = c.self.inside in
    let shared : IsShared i.lists i.stack (c.in-Some.build ∷ reverse i.builds.items) (named i.table i.call) = subst (λ (o : Option Build). IsShared i.lists i.stack (all_builds o i.builds.items) (named i.table i.call)) (sym c.take.ensures.value ∙ c.in-Some.is) c.self.invariant.shared in
    All-head (IsBuilding i.lists) c.in-Some.build (reverse i.builds.items) shared.building

pub append_from-grown-requires-clause-elsewhere : goal.append_from-grown-requires-clause-elsewhere
append_from-grown-requires-clause-elsewhere c =
    let i = c.self.inside in
    let builds = ap (λ (w : HeldLists). w.builds) c.self.view_is in
    let some = some_build i.lists i.builds.items c.args.self.now.builds builds c.requires.some in
    let source = c.index.result.now in
    let front = take (c.len.result - 1) i.builds.items in
    let pops = last_is i.builds.items c.len.result i.builds.len c.len.ensures i.builds.ok.0 some source c.index.ensures in
    let shared : IsShared i.lists i.stack (c.in-Some.build ∷ reverse i.builds.items) (named i.table i.call) = subst (λ (o : Option Build). IsShared i.lists i.stack (all_builds o i.builds.items) (named i.table i.call)) (sym c.take.ensures.value ∙ c.in-Some.is) c.self.invariant.shared in
    let apart = build_apart i.lists i.stack [] (reverse front) c.in-Some.build source (named i.table i.call) (subst (λ (bs : List Build). IsShared i.lists i.stack (c.in-Some.build ∷ bs) (named i.table i.call)) (reverse_push i.builds.items front source pops) shared) in
    record { id = build_id source; on = c.at_first_built-from.ensures.on; apart = apart }

pub invariant_of-self : goal.invariant_of-self
invariant_of-self c =
    let i = c.self.inside in
    let v = c.args.self.now in
    let e = c.append_from-grown.ensures in
    let a = c.in-Some.build in
    let b = c.append_from-grown.new.build in
    let new = c.append_from-grown.new.lists in
    made_sound i.lists new i.stack (named i.table i.call) c.replace.new.self i.making i.builds.items a b (sym c.take.ensures.value ∙ c.in-Some.is) c.replace.ensures.after i.sizes _ _ c.self.invariant v c.self.view_is e.same e.building e.others e.account e.length refl

pub returns-clause-ok : goal.returns-clause-ok
returns-clause-ok c =
    let i = c.self.inside in
    let v = c.args.self.now in
    let e = c.append_from-grown.ensures in
    let a = c.in-Some.build in
    let b = c.append_from-grown.new.build in
    let new = c.append_from-grown.new.lists in
    let builds = ap (λ (w : HeldLists). w.builds) c.self.view_is in
    let some = some_build i.lists i.builds.items c.args.self.now.builds builds c.requires.some in
    let source = c.index.result.now in
    let front = take (c.len.result - 1) i.builds.items in
    let pops = last_is i.builds.items c.len.result i.builds.len c.len.ensures i.builds.ok.0 some source c.index.ensures in
    let shared : IsShared i.lists i.stack (c.in-Some.build ∷ reverse i.builds.items) (named i.table i.call) = subst (λ (o : Option Build). IsShared i.lists i.stack (all_builds o i.builds.items) (named i.table i.call)) (sym c.take.ensures.value ∙ c.in-Some.is) c.self.invariant.shared in
    let apart = build_apart i.lists i.stack [] (reverse front) c.in-Some.build source (named i.table i.call) (subst (λ (bs : List Build). IsShared i.lists i.stack (c.in-Some.build ∷ bs) (named i.table i.call)) (reverse_push i.builds.items front source pops) shared) in
    let id = build_id source in
    let copied = changed_text i.lists i.table c.args.upper id c.at_first_built-from.result v c.at_first_built-from.ensures.first (last_tokens i.builds.items c.len.result i.builds.len c.len.ensures i.builds.ok.0 some source c.index.ensures i.lists v.builds builds) (ap (λ (w : HeldLists). w.groups) c.self.view_is) in
    ok_of c.append_from-grown.result _ _ e.grown (λ k. made_grown i.lists new i.stack (named i.table i.call) c.replace.new.self i.making i.builds.items a b (sym c.take.ensures.value ∙ c.in-Some.is) c.replace.ensures.after i.sizes _ _ c.self.invariant v c.self.view_is e.same e.building e.others e.account e.length refl (map (case_changed (case_codes c.args.upper v.groups.now)) (first_list v.builds)) (k id c.at_first_built-from.ensures.on apart ∙ ap (λ (us : List Token). tokens_at i.lists (build_id a) ++ us) copied))

pub returns-clause-fits : goal.returns-clause-fits
returns-clause-fits c =
    let i = c.self.inside in
    let v = c.args.self.now in
    let e = c.append_from-grown.ensures in
    let a = c.in-Some.build in
    let b = c.append_from-grown.new.build in
    let new = c.append_from-grown.new.lists in
    let builds = ap (λ (w : HeldLists). w.builds) c.self.view_is in
    let some = some_build i.lists i.builds.items c.args.self.now.builds builds c.requires.some in
    let source = c.index.result.now in
    let front = take (c.len.result - 1) i.builds.items in
    let pops = last_is i.builds.items c.len.result i.builds.len c.len.ensures i.builds.ok.0 some source c.index.ensures in
    let shared : IsShared i.lists i.stack (c.in-Some.build ∷ reverse i.builds.items) (named i.table i.call) = subst (λ (o : Option Build). IsShared i.lists i.stack (all_builds o i.builds.items) (named i.table i.call)) (sym c.take.ensures.value ∙ c.in-Some.is) c.self.invariant.shared in
    let apart = build_apart i.lists i.stack [] (reverse front) c.in-Some.build source (named i.table i.call) (subst (λ (bs : List Build). IsShared i.lists i.stack (c.in-Some.build ∷ bs) (named i.table i.call)) (reverse_push i.builds.items front source pops) shared) in
    let id = build_id source in
    let copied = changed_text i.lists i.table c.args.upper id c.at_first_built-from.result v c.at_first_built-from.ensures.first (last_tokens i.builds.items c.len.result i.builds.len c.len.ensures i.builds.ok.0 some source c.index.ensures i.lists v.builds builds) (ap (λ (w : HeldLists). w.groups) c.self.view_is) in
    ok_of c.append_from-grown.result _ _ e.grown (λ k. made_fits i.lists new i.stack (named i.table i.call) c.replace.new.self i.making i.builds.items a b (sym c.take.ensures.value ∙ c.in-Some.is) c.replace.ensures.after i.sizes _ _ c.self.invariant v c.self.view_is e.same e.building e.others e.account e.length refl e.words (omega (arith, c.used-words.ensures.is, c.used-words.ensures.within)) (map (case_changed (case_codes c.args.upper v.groups.now)) (first_list v.builds)) (k id c.at_first_built-from.ensures.on apart ∙ ap (λ (us : List Token). tokens_at i.lists (build_id a) ++ us) copied))

pub returns-clause-err : goal.returns-clause-err
returns-clause-err c =
    let i = c.self.inside in
    let v = c.args.self.now in
    let e = c.append_from-grown.ensures in
    let a = c.in-Some.build in
    let b = c.append_from-grown.new.build in
    let new = c.append_from-grown.new.lists in
    let builds = ap (λ (w : HeldLists). w.builds) c.self.view_is in
    let some = some_build i.lists i.builds.items c.args.self.now.builds builds c.requires.some in
    let source = c.index.result.now in
    let front = take (c.len.result - 1) i.builds.items in
    let pops = last_is i.builds.items c.len.result i.builds.len c.len.ensures i.builds.ok.0 some source c.index.ensures in
    let shared : IsShared i.lists i.stack (c.in-Some.build ∷ reverse i.builds.items) (named i.table i.call) = subst (λ (o : Option Build). IsShared i.lists i.stack (all_builds o i.builds.items) (named i.table i.call)) (sym c.take.ensures.value ∙ c.in-Some.is) c.self.invariant.shared in
    let apart = build_apart i.lists i.stack [] (reverse front) c.in-Some.build source (named i.table i.call) (subst (λ (bs : List Build). IsShared i.lists i.stack (c.in-Some.build ∷ bs) (named i.table i.call)) (reverse_push i.builds.items front source pops) shared) in
    let id = build_id source in
    let copied = changed_text i.lists i.table c.args.upper id c.at_first_built-from.result v c.at_first_built-from.ensures.first (last_tokens i.builds.items c.len.result i.builds.len c.len.ensures i.builds.ok.0 some source c.index.ensures i.lists v.builds builds) (ap (λ (w : HeldLists). w.groups) c.self.view_is) in
    if_both c.append_from-grown.result _ _ _ e.err e.full (λ k full is_full.
    made_short i.lists new i.stack (named i.table i.call) c.replace.new.self i.making i.builds.items a b (sym c.take.ensures.value ∙ c.in-Some.is) c.replace.ensures.after i.sizes _ _ c.self.invariant v c.self.view_is e.same e.building e.others e.account e.length refl e.words (omega (arith, c.used-words.ensures.is, c.used-words.ensures.within)) (map (case_changed (case_codes c.args.upper v.groups.now)) (first_list v.builds)) (subst (λ (us : List Token). IsAppendedInPart us (tokens_at i.lists (build_id a)) (tokens_at new (build_id a))) copied (k id c.at_first_built-from.ensures.on apart)) full is_full)

pub returns-clause-keeps : goal.returns-clause-keeps
returns-clause-keeps c =
    let i = c.self.inside in
    let v = c.args.self.now in
    let e = c.append_from-grown.ensures in
    let a = c.in-Some.build in
    let b = c.append_from-grown.new.build in
    let new = c.append_from-grown.new.lists in
    made_macros i.lists new i.stack (named i.table i.call) c.replace.new.self i.making i.builds.items a b (sym c.take.ensures.value ∙ c.in-Some.is) c.replace.ensures.after i.sizes _ _ c.self.invariant v c.self.view_is e.same e.building e.others e.account e.length refl
