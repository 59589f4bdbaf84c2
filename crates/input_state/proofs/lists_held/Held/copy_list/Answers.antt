use Rattle.std.proofs.Common.{◌++◌, List, reverse, sym, ap, ◌∙◌, subst, arith}
use Rattle.std.specs.Prelude.{option_to_list}
use Rattle.tex_defs.specs.declared.Token.{Token}
use Rattle.token_lists.specs.Ids.{id_of, build_id}
use Rattle.token_lists.specs.Table.{tokens_at}
use Rattle.input_state.specs.Appends.{IsAppendedInPart}
use Rattle.input_state.specs.HeldLists.{HeldLists}
use Rattle.input_state.specs.HeldViews.{named}
use Rattle.input_state.specs.AtLocations.{list_number, location_tokens}
use Rattle.input_state.proofs.Lengthening.{kept_apart, copied_text, adds_nothing, adds_none, if_both, first_sound, first_macros, first_grown, first_fits, first_short}
use Rattle.input_state.proofs.Sounds.{push_shared, push_building, used_now, ok_of}
use Rattle.input_state.proofs.lists_held.Held.copy_list.Goals as goal

pub append_from-copied-requires-clause-building : goal.append_from-copied-requires-clause-building
append_from-copied-requires-clause-building c =
    let i = c.self.inside in
    push_building i.lists i.stack (named i.table i.call) i.making i.builds.items c.pop.new.self.items c.in-Some-pop.build c.in-Some-pop.ensures.items c.self.invariant.shared

pub append_from-copied-requires-clause-elsewhere : goal.append_from-copied-requires-clause-elsewhere
append_from-copied-requires-clause-elsewhere c =
    let i = c.self.inside in
    let id = id_of c.in-Some.list.now in
    let shared = push_shared i.lists i.stack (named i.table i.call) i.making i.builds.items c.pop.new.self.items c.in-Some-pop.build c.in-Some-pop.ensures.items c.self.invariant.shared in
    record {
      id = id;
      on = c.at_first-from.ensures.on;
      apart = kept_apart i.lists i.stack (option_to_list i.making) (reverse c.pop.new.self.items) c.in-Some-pop.build (named i.table i.call) shared id c.in-Some.ensures.held;
    }

pub invariant_of-self : goal.invariant_of-self
invariant_of-self c =
    let i = c.self.inside in
    let v = c.args.self.now in
    let e = c.append_from-copied.ensures in
    let a = c.in-Some-pop.build in
    let b = c.append_from-copied.new.build in
    let new = c.append_from-copied.new.lists in
    first_sound i.lists new i.stack (named i.table i.call) i.making i.builds.items c.push_reserved.new.self.items c.pop.new.self.items a b c.in-Some-pop.ensures.items c.push_reserved.ensures.items i.sizes _ _ c.self.invariant v c.self.view_is e.same e.building e.others e.account e.length (c.push_reserved.ensures.capacity ∙ c.in-Some-pop.ensures.capacity)

pub returns-clause-ok : goal.returns-clause-ok
returns-clause-ok c =
    let i = c.self.inside in
    let v = c.args.self.now in
    let e = c.append_from-copied.ensures in
    let a = c.in-Some-pop.build in
    let b = c.append_from-copied.new.build in
    let new = c.append_from-copied.new.lists in
    let id = id_of c.in-Some.list.now in
    let shared = push_shared i.lists i.stack (named i.table i.call) i.making i.builds.items c.pop.new.self.items a c.in-Some-pop.ensures.items c.self.invariant.shared in
    let apart = kept_apart i.lists i.stack (option_to_list i.making) (reverse c.pop.new.self.items) a (named i.table i.call) shared id c.in-Some.ensures.held in
    let copied = copied_text i.lists i.table c.args.loc id c.at_first-from.result v c.in-Some.ensures.list c.at_first-from.ensures.first (ap (λ (w : HeldLists). w.lists) c.self.view_is) (ap (λ (w : HeldLists). w.groups) c.self.view_is) in
    ok_of c.append_from-copied.result _ _ e.grown (λ k. first_grown i.lists new i.stack (named i.table i.call) i.making i.builds.items c.push_reserved.new.self.items c.pop.new.self.items a b c.in-Some-pop.ensures.items c.push_reserved.ensures.items i.sizes _ _ c.self.invariant v c.self.view_is e.same e.building e.others e.account e.length (c.push_reserved.ensures.capacity ∙ c.in-Some-pop.ensures.capacity) (location_tokens v.lists v.groups c.args.loc) (k id c.at_first-from.ensures.on apart ∙ ap (λ (us : List Token). tokens_at i.lists (build_id a) ++ us) copied))

pub returns-clause-fits : goal.returns-clause-fits
returns-clause-fits c =
    let i = c.self.inside in
    let v = c.args.self.now in
    let e = c.append_from-copied.ensures in
    let a = c.in-Some-pop.build in
    let b = c.append_from-copied.new.build in
    let new = c.append_from-copied.new.lists in
    let id = id_of c.in-Some.list.now in
    let shared = push_shared i.lists i.stack (named i.table i.call) i.making i.builds.items c.pop.new.self.items a c.in-Some-pop.ensures.items c.self.invariant.shared in
    let apart = kept_apart i.lists i.stack (option_to_list i.making) (reverse c.pop.new.self.items) a (named i.table i.call) shared id c.in-Some.ensures.held in
    let copied = copied_text i.lists i.table c.args.loc id c.at_first-from.result v c.in-Some.ensures.list c.at_first-from.ensures.first (ap (λ (w : HeldLists). w.lists) c.self.view_is) (ap (λ (w : HeldLists). w.groups) c.self.view_is) in
    ok_of c.append_from-copied.result _ _ e.grown (λ k. first_fits i.lists new i.stack (named i.table i.call) i.making i.builds.items c.push_reserved.new.self.items c.pop.new.self.items a b c.in-Some-pop.ensures.items c.push_reserved.ensures.items i.sizes _ _ c.self.invariant v c.self.view_is e.same e.building e.others e.account e.length (c.push_reserved.ensures.capacity ∙ c.in-Some-pop.ensures.capacity) e.words (omega (arith, c.used-words.ensures.is, c.used-words.ensures.within)) (location_tokens v.lists v.groups c.args.loc) (k id c.at_first-from.ensures.on apart ∙ ap (λ (us : List Token). tokens_at i.lists (build_id a) ++ us) copied))

pub returns-clause-err : goal.returns-clause-err
returns-clause-err c =
    let i = c.self.inside in
    let v = c.args.self.now in
    let e = c.append_from-copied.ensures in
    let a = c.in-Some-pop.build in
    let b = c.append_from-copied.new.build in
    let new = c.append_from-copied.new.lists in
    let id = id_of c.in-Some.list.now in
    let shared = push_shared i.lists i.stack (named i.table i.call) i.making i.builds.items c.pop.new.self.items a c.in-Some-pop.ensures.items c.self.invariant.shared in
    let apart = kept_apart i.lists i.stack (option_to_list i.making) (reverse c.pop.new.self.items) a (named i.table i.call) shared id c.in-Some.ensures.held in
    let copied = copied_text i.lists i.table c.args.loc id c.at_first-from.result v c.in-Some.ensures.list c.at_first-from.ensures.first (ap (λ (w : HeldLists). w.lists) c.self.view_is) (ap (λ (w : HeldLists). w.groups) c.self.view_is) in
    if_both c.append_from-copied.result _ _ _ e.err e.full (λ k full is_full.
    first_short i.lists new i.stack (named i.table i.call) i.making i.builds.items c.push_reserved.new.self.items c.pop.new.self.items a b c.in-Some-pop.ensures.items c.push_reserved.ensures.items i.sizes _ _ c.self.invariant v c.self.view_is e.same e.building e.others e.account e.length (c.push_reserved.ensures.capacity ∙ c.in-Some-pop.ensures.capacity) e.words (omega (arith, c.used-words.ensures.is, c.used-words.ensures.within)) (location_tokens v.lists v.groups c.args.loc) (subst (λ (us : List Token). IsAppendedInPart us (tokens_at i.lists (build_id a)) (tokens_at new (build_id a))) copied (k id c.at_first-from.ensures.on apart)) full is_full)

pub returns-clause-keeps : goal.returns-clause-keeps
returns-clause-keeps c =
    let i = c.self.inside in
    let v = c.args.self.now in
    let e = c.append_from-copied.ensures in
    let a = c.in-Some-pop.build in
    let b = c.append_from-copied.new.build in
    let new = c.append_from-copied.new.lists in
    first_macros i.lists new i.stack (named i.table i.call) i.making i.builds.items c.push_reserved.new.self.items c.pop.new.self.items a b c.in-Some-pop.ensures.items c.push_reserved.ensures.items i.sizes _ _ c.self.invariant v c.self.view_is e.same e.building e.others e.account e.length (c.push_reserved.ensures.capacity ∙ c.in-Some-pop.ensures.capacity)

pub returns-in_default-clause-ok : goal.returns-in_default-clause-ok
returns-in_default-clause-ok c =
    let v = c.args.self.now in
    adds_nothing v c.args.loc (ap (λ (w : HeldLists). list_number w.groups c.args.loc) (sym c.self.view_is) ∙ c.in_default.ensures.list)

pub returns-in_default-clause-fits : goal.returns-in_default-clause-fits
returns-in_default-clause-fits c =
    let i = c.self.inside in
    let v = c.args.self.now in
    omega (arith, adds_none v c.args.loc (ap (λ (w : HeldLists). list_number w.groups c.args.loc) (sym c.self.view_is) ∙ c.in_default.ensures.list), c.used-old_words.ensures.is, c.used-old_words.ensures.within, used_now i.lists i.stack i.making i.builds.items (named i.table i.call) i.sizes _ c.self.invariant v c.self.view_is, c.self.invariant.sized.memory, ap (λ (w : HeldLists). w.sizes.main_memory_size) c.self.view_is)
