use Rattle.std.proofs.Common.{◌≡◌, ℕ, ◌<◌, List, [], ◌∷◌, Bool, true, false, cond, length, set, refl, sym, ap, ◌∙◌, inl, inr, arith}
use Rattle.std.proofs.lemmas.Grind.{common_steps}
use Rattle.std.proofs.lemmas.Bool.{cases_lt, eqb-true}
use Rattle.std.proofs.lemmas.List.{set-get_or, set_past, get_or_past, get_or-set_same, set-set, length-append}
use Rattle.save_stack.specs.declared.Saved.{Saved}
use Rattle.save_stack.specs.Groups.{level_at, top, back_levels, undo_levels, add_top}
use Rattle.save_stack.proofs.Undo.{skip_levels, put_levels}
use Rattle.equivalents.specs.Locations.{V}
use Rattle.equivalents.specs.Groups.{Groups, opened, is_present, entry_for, depth, level_of}
use Rattle.equivalents.proofs.laws.groups_take_back.Goals as goal

-- the level of the location is put back, whatever it was
back : (e : Saved V) (levels : List ℕ) (d : ℕ) → 0 < d → e.level ≡ level_at levels e.loc → back_levels e (set levels e.loc d) ≡ levels
back e levels d deep is = elim (cases_lt e.loc (length levels)) [
  | inl within ↦
      let now : level_at (set levels e.loc d) e.loc ≡ d = get_or-set_same levels e.loc d 0 within in
      put_levels e (set levels e.loc d) (λ z. omega (arith, now, z, deep)) ∙ set-set levels e.loc d e.level ∙ ap (λ (n : ℕ). set levels e.loc n) is ∙ set-get_or levels e.loc 0
  | inr past ↦
      ap (λ (l : List ℕ). back_levels e l) (set_past levels e.loc d past) ∙ skip_levels e levels (get_or_past levels e.loc 0 past)
]

levels_back : (b : Bool) (e : Saved V) (gs : List (List (Saved V))) (levels : List ℕ) (d : ℕ) → 0 < d → e.level ≡ level_at levels e.loc → (b ≡ true → level_at levels e.loc ≡ d) → undo_levels (top (cond b ([] ∷ gs) (add_top e ([] ∷ gs)))) (set levels e.loc d) ≡ levels
levels_back true e gs levels d deep is present = ap (λ (n : ℕ). set levels e.loc n) (sym (present refl)) ∙ set-get_or levels e.loc 0
levels_back false e gs levels d deep is present = back e levels d deep is

pub returns : goal.returns
returns c = record {
  locals = λ g kind l v. refl;
  outers = λ g kind l v. refl;
  levels = λ g kind l v.
      let h : Groups = opened g kind in
      levels_back (is_present h l) (entry_for h l) g.entries g.levels (depth h) (omega (arith, length-append g.kinds (kind ∷ []))) refl (λ present. eqb-true (level_of h l) (depth h) present);
  inside = λ g l v. refl;
  global_levels = λ g kind l v. refl;
  globals = λ g kind l v. refl;
  empty = λ g kind. grind (arith, common_steps);
}
