-- Lists to which only a front of some tokens was appended.
use Rattle.std.proofs.Common.{◌≡◌, ℕ, List, [], ◌∷◌, ◌++◌, take, drop, subst, Option, None, Some, Result, Ok, Err, sym, ap, ◌∙◌, arith, append_assoc}
use Rattle.std.specs.Prelude.{IsSome, OnErr}
use Rattle.std.proofs.lemmas.Bool.{true≢false}
use Rattle.std.proofs.lemmas.List.{append-nil, get_or-set_same, take-append-drop}
use Rattle.tex_defs.specs.declared.Token.{Token}
use Rattle.tex_defs.specs.declared.Full.{Full}
use Rattle.token_lists.specs.Table.{Entry, tokens_at, tokens_of, extended, Extends, ExtendsByPart}
use Rattle.token_lists.specs.declared.Build.{Build}
use Rattle.token_lists.specs.Ids.{build_id, IsBuilding}
use Rattle.token_lists.proofs.Builds.{sole_known}
use Rattle.plain_state.specs.Definitions.{with_cell}
use Rattle.list_builder.specs.Scans.{work_by, IsFront, IsGrownByPart}

pub part_first : (list now : List Token) (one two : Option Token) → IsSome one → now ≡ list → IsGrownByPart list now (with_cell (with_cell list one) two)
part_first list now None two some e = absurd (true≢false (sym some))
part_first list now (Some t) None some e = record {
  front = [];
  behind = t ∷ [];
  grown = e ∙ sym (append-nil list);
  left = ap (λ (l : List Token). l ++ t ∷ []) (sym e);
  some = omega arith;
}
part_first list now (Some t) (Some u) some e = record {
  front = [];
  behind = t ∷ u ∷ [];
  grown = e ∙ sym (append-nil list);
  left = append_assoc list (t ∷ []) (u ∷ []) ∙ ap (λ (l : List Token). l ++ t ∷ u ∷ []) (sym e);
  some = omega arith;
}

part_second : (list now : List Token) (one two : Option Token) → IsSome two → now ≡ with_cell list one → IsGrownByPart list now (with_cell (with_cell list one) two)
part_second list now one None some e = absurd (true≢false (sym some))
part_second list now None (Some u) some e = record {
  front = [];
  behind = u ∷ [];
  grown = e ∙ sym (append-nil list);
  left = ap (λ (l : List Token). l ++ u ∷ []) (sym e);
  some = omega arith;
}
part_second list now (Some t) (Some u) some e = record {
  front = t ∷ [];
  behind = u ∷ [];
  grown = e;
  left = ap (λ (l : List Token). l ++ u ∷ []) (sym e);
  some = omega arith;
}

pub part_rest : {A : Type 0} → (r : Result A Full) (id : ℕ) (mid new : List (Option Entry)) (list : List Token) (one two : Option Token) → OnErr r (IsSome two) → OnErr r (new ≡ mid) → tokens_at mid id ≡ with_cell list one →
    OnErr r (IsGrownByPart list (tokens_at new id) (with_cell (with_cell list one) two))
part_rest (Ok a) id mid new list one two some e f = tt
part_rest (Err g) id mid new list one two some e f = part_second list (tokens_at new id) one two some (ap (λ (t : List (Option Entry)). tokens_at t id) e ∙ f)

-- a list that was copied in part
module _ (old new : List (Option Entry)) (b : Build) (tokens : List Token) (building : IsBuilding old b) where
  extended_by : (n : ℕ) → Extends old new (build_id b) (take n tokens) → tokens_at new (build_id b) ≡ tokens_at old (build_id b) ++ take n tokens
  extended_by n e =
      let s = sole_known old b building in
      ap (λ (t : List (Option Entry)). tokens_at t (build_id b)) e.after
      ∙ ap tokens_of (get_or-set_same old (build_id b) _ None s.below)
      ∙ ap (λ (o : Option Entry). tokens_of (extended e.places (take n tokens) o)) s.there
      ∙ sym (ap (λ (o : Option Entry). tokens_of o ++ take n tokens) s.there)

  part_of : ExtendsByPart old new (build_id b) tokens → IsFront (tokens_at old (build_id b)) (tokens_at new (build_id b)) (tokens_at old (build_id b) ++ tokens)
  part_of e = record {
    front = take e.count tokens;
    behind = drop e.count tokens;
    grown = extended_by e.count e.part;
    left = ap (λ (l : List Token). tokens_at old (build_id b) ++ l) (sym (take-append-drop e.count tokens))
        ∙ sym (append_assoc (tokens_at old (build_id b)) (take e.count tokens) (drop e.count tokens))
        ∙ ap (λ (l : List Token). l ++ drop e.count tokens) (sym (extended_by e.count e.part));
  }

  pub part_copied : {A : Type 0} → (r : Result A Full) (work : Option Build) (id : ℕ) → work ≡ Some b → id ≡ build_id b → OnErr r (ExtendsByPart old new (build_id b) tokens) →
      OnErr r (IsFront (work_by old work) (tokens_at new id) (work_by old work ++ tokens))
  part_copied (Ok a) work id w i e = tt
  part_copied (Err f) work id w i e =
      subst (λ (o : Option Build). IsFront (work_by old o) (tokens_at new id) (work_by old o ++ tokens)) (sym w)
      (subst (λ (k : ℕ). IsFront (tokens_at old (build_id b)) (tokens_at new k) (tokens_at old (build_id b) ++ tokens)) (sym i) (part_of e))
