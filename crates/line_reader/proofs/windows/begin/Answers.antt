use Rattle.std.proofs.Common.{◌≡◌, ◌<◌, ◌≤◌, ◌∷◌, ◌++◌, [], List, ℕ, false, true, length, sym, ap, subst, ◌∙◌, arith}
use Rattle.std.proofs.lemmas.List.{length_push}
use Rattle.line_reader.specs.Ahead.{Ahead, IsWindowAt, is_begun, with_ahead, ahead_of}
use Rattle.line_reader.proofs.AheadOf.{with-same, with-new, ahead-new}
use Rattle.line_reader.proofs.windows.begin.Goals as goal

new_room : (id room : ℕ) (ws : List Ahead) → is_begun id ws ≡ false → length (with_ahead id [] ws) ≤ room → length ws < room
new_room id room ws none h =
    let new : Ahead = record { reader = id; bytes = [] } in
    omega (arith, h, ap length (with-new id [] ws none), length_push ws new)

new_is : (id : ℕ) (ws : List Ahead) → is_begun id ws ≡ false → ws ++ (record { reader = id; bytes = [] }) ∷ [] ≡ with_ahead id (ahead_of id ws) ws
new_is id ws none = sym (with-new id [] ws none) ∙ ap (λ (bytes : List ℕ). with_ahead id bytes ws) (sym (ahead-new id ws none))

pub add-requires : goal.add-requires
add-requires c = record { room = new_room c.args.reader _ c.args.windows.now.items (subst (λ (ws : List Ahead). is_begun c.args.reader ws ≡ false) c.deref.ensures.value c.in-None.ensures) c.requires }

pub returns-in-Some-clause-after : goal.returns-in-Some-clause-after
returns-in-Some-clause-after c =
    let s : IsWindowAt c.args.reader c.deref.result.now c.in-Some.field-0 = c.in-Some.ensures in
    sym (with-same c.args.reader c.args.windows.now.items (subst (λ (ws : List Ahead). is_begun c.args.reader ws ≡ true) c.deref.ensures.value s.begun))

pub returns-in-None-clause-after : goal.returns-in-None-clause-after
returns-in-None-clause-after c = c.add.ensures.after ∙ new_is c.args.reader c.args.windows.now.items (subst (λ (ws : List Ahead). is_begun c.args.reader ws ≡ false) c.deref.ensures.value c.in-None.ensures)
