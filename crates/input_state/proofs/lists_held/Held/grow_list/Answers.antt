use Rattle.std.proofs.Common.{◌≡◌, ◌∙◌, ◌∷◌, ◌++◌, ◌<◌, ◌-◌, ℕ, [], List, length, reverse, map, None, Some, ap, sym, subst, refl, arith}
use Rattle.std.specs.Prelude.{option_to_list, slice_set, slice_index_or, vec_len}
use Rattle.token_lists.specs.declared.Build.{Build}
use Rattle.tex_defs.specs.declared.Token.{Token}
use Rattle.tex_defs.specs.declared.Full.{Full}
use Rattle.plain_tokens.specs.Puts.{grow_first}
use Rattle.plain_tokens.specs.Tables.{memory, refused}
use Rattle.token_lists.specs.Table.{words}
use Rattle.token_lists.specs.Refusals.{IsFull}
use Rattle.token_lists.specs.Ids.{build_id}
use Rattle.token_lists.specs.Table.{tokens_at}
use Rattle.input_stack.specs.View.{pending}
use Rattle.input_state.specs.HeldLists.{HeldLists, words_held}
use Rattle.input_state.specs.HeldViews.{named, calling_of, text, lists_of, fronts, made_text, covers, texts}
use Rattle.input_state.proofs.ListViews.{first_view, same_first, macros_view, held_lists, reverse_push}
use Rattle.input_state.proofs.Sounds.{grown, push_builds, push_shared, push_building, changed_sound, fits_now, full_now, match_of, ok_of, err_of}
use Rattle.input_state.proofs.lists_held.Held.grow_list.Goals as goal

-- the last of these, at this index, and those in front of it
record Ends (xs : List Build) (i : ℕ) (a : Build) : Type 0 where
  rest : List Build
  is : xs ≡ rest ++ a ∷ []
  set_last : (b : Build) → slice_set xs i b ≡ rest ++ b ∷ []

ends_by : (x : Build) (xs : List Build) (a : Build) → a ≡ slice_index_or (x ∷ xs) (length xs) a → Ends (x ∷ xs) (length xs) a
ends_by x [] a e = record { rest = []; is = ap (λ (b : Build). b ∷ []) (sym e); set_last = λ b. refl }
ends_by x (y ∷ ys) a e =
    let h = ends_by y ys a e in
    record { rest = x ∷ h.rest; is = ap (λ (bs : List Build). x ∷ bs) h.is; set_last = λ b. ap (λ (bs : List Build). x ∷ bs) (h.set_last b) }

ends : (xs : List Build) (n : ℕ) (a : Build) → n ≡ length xs → 0 < n → a ≡ slice_index_or xs (n - 1) a → Ends xs (n - 1) a
ends [] n a count some e = absurd (omega (arith, count, some))
ends (x ∷ xs) n a count some e =
    let i : n - 1 ≡ length xs = omega (arith, count) in
    subst (λ (k : ℕ). Ends (x ∷ xs) k a) (sym i) (ends_by x xs a (e ∙ ap (λ (k : ℕ). slice_index_or (x ∷ xs) k a) i))

pub append-requires : goal.append-requires
append-requires c =
    let i = c.self.inside in
    let last = ends i.builds.items (vec_len i.builds) c.in-Some.build.now i.builds.ok.0 (c.in-Some.ensures.variant.0 refl) c.in-Some.ensures.value in
    push_building i.lists i.stack (named i.table i.call) i.making i.builds.items last.rest c.in-Some.build.now last.is c.self.invariant.shared

pub invariant_of-self : goal.invariant_of-self
invariant_of-self c =
    let i = c.self.inside in
    let last = ends i.builds.items (vec_len i.builds) c.in-Some.build.now i.builds.ok.0 (c.in-Some.ensures.variant.0 refl) c.in-Some.ensures.value in
    let a = c.in-Some.build.now in
    let b = c.append.new.build in
    let new = c.append.new.lists in
    let rest = last.rest in
    let e = c.append.ensures in
    let xs = option_to_list i.making in
    let shared = push_shared i.lists i.stack (named i.table i.call) i.making i.builds.items rest a last.is c.self.invariant.shared in
    let was = push_building i.lists i.stack (named i.table i.call) i.making i.builds.items rest a last.is c.self.invariant.shared in
    let changed = grown i.lists new i.stack (named i.table i.call) xs (reverse rest) b a shared was e.same e.building e.others e.account in
    changed_sound i.lists new i.stack (named i.table i.call) i.sizes _ _ e.length refl xs (b ∷ []) (reverse rest) i.making i.making (slice_set i.builds.items (vec_len i.builds - 1) c.append.new.build) i.builds.items (push_builds i.making _ rest b (last.set_last c.append.new.build)) changed c.self.invariant

pub returns-clause-refused : goal.returns-clause-refused
returns-clause-refused c =
    let i = c.self.inside in
    let last = ends i.builds.items (vec_len i.builds) c.in-Some.build.now i.builds.ok.0 (c.in-Some.ensures.variant.0 refl) c.in-Some.ensures.value in
    let v = c.args.self.now in
    let fits = fits_now i.lists i.stack i.making i.builds.items (named i.table i.call) i.sizes _ c.self.invariant v c.self.view_is in
    let full = full_now i.lists i.stack i.making i.builds.items (named i.table i.call) i.sizes _ c.self.invariant v c.self.view_is in
    match_of c.append.result (words i.lists < length i.lists) (refused v.sizes (memory 1 (words_held v) ∷ []) ≡ None) (λ (f : Full). IsFull f i.lists) (λ (f : Full). refused v.sizes (memory 1 (words_held v) ∷ []) ≡ Some f) c.append.ensures.room c.append.ensures.full fits full

pub returns-clause-ok : goal.returns-clause-ok
returns-clause-ok c =
    let i = c.self.inside in
    let last = ends i.builds.items (vec_len i.builds) c.in-Some.build.now i.builds.ok.0 (c.in-Some.ensures.variant.0 refl) c.in-Some.ensures.value in
    let a = c.in-Some.build.now in
    let b = c.append.new.build in
    let new = c.append.new.lists in
    let rest = last.rest in
    let e = c.append.ensures in
    let xs = option_to_list i.making in
    let ts = text i.lists a ++ c.args.token ∷ [] in
    let shared = push_shared i.lists i.stack (named i.table i.call) i.making i.builds.items rest a last.is c.self.invariant.shared in
    let was = push_building i.lists i.stack (named i.table i.call) i.making i.builds.items rest a last.is c.self.invariant.shared in
    let changed = grown i.lists new i.stack (named i.table i.call) xs (reverse rest) b a shared was e.same e.building e.others e.account in
    let p = pending i.lists i.stack in
    let old : List (List Token) → HeldLists = λ us. held_lists (fronts i.lists p.puts) (made_text i.lists i.making) (calling_of i.lists i.call) us (covers i.lists p.sources) i.table i.sizes (texts i.lists) in
    let first : lists_of i.lists p i.making i.builds.items (named i.table i.call) i.sizes ≡ old (text i.lists a ∷ map (text i.lists) (reverse rest)) = ap (λ bs. old (map (text i.lists) bs)) (reverse_push i.builds.items rest a last.is) in
    ok_of c.append.result (tokens_at new (build_id a) ≡ ts) _ e.grown (λ is.
    first_view i.lists new i.stack (named i.table i.call) i.sizes i.making (slice_set i.builds.items (vec_len i.builds - 1) c.append.new.build) rest b ts changed (last.set_last c.append.new.build) (ap (tokens_at new) e.same ∙ is)
    ∙ ap (λ (v : HeldLists). record v { builds = grow_first c.args.token v.builds; lists = texts new }) (sym first ∙ c.self.view_is))

pub returns-clause-err : goal.returns-clause-err
returns-clause-err c =
    let i = c.self.inside in
    let last = ends i.builds.items (vec_len i.builds) c.in-Some.build.now i.builds.ok.0 (c.in-Some.ensures.variant.0 refl) c.in-Some.ensures.value in
    let e = c.append.ensures in
    err_of c.append.result (c.append.new.lists ≡ i.lists) _ e.err (λ still.
    same_first i.lists c.append.new.lists i.stack (named i.table i.call) i.sizes i.making i.builds.items (slice_set i.builds.items (vec_len i.builds - 1) c.append.new.build) last.rest c.in-Some.build.now c.append.new.build c.args.self.now still last.is (last.set_last c.append.new.build) e.same c.self.view_is)

pub returns-clause-keeps : goal.returns-clause-keeps
returns-clause-keeps c =
    let i = c.self.inside in
    let last = ends i.builds.items (vec_len i.builds) c.in-Some.build.now i.builds.ok.0 (c.in-Some.ensures.variant.0 refl) c.in-Some.ensures.value in
    let a = c.in-Some.build.now in
    let b = c.append.new.build in
    let new = c.append.new.lists in
    let rest = last.rest in
    let e = c.append.ensures in
    let xs = option_to_list i.making in
    let shared = push_shared i.lists i.stack (named i.table i.call) i.making i.builds.items rest a last.is c.self.invariant.shared in
    let was = push_building i.lists i.stack (named i.table i.call) i.making i.builds.items rest a last.is c.self.invariant.shared in
    let changed = grown i.lists new i.stack (named i.table i.call) xs (reverse rest) b a shared was e.same e.building e.others e.account in
    macros_view i.lists new i.stack (named i.table i.call) i.sizes i.making i.builds.items xs (b ∷ []) (reverse rest) c.args.self.now changed c.self.view_is
