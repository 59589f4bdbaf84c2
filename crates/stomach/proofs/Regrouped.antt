-- What stands at the locations has changed, and with it what the memory holds; all else is as it was.
use Rattle.std.proofs.Common.{◌≡◌, ℕ, ◌∷◌, [], length, true, None}
use Rattle.tex_defs.specs.Places.{World}
use Rattle.tex_defs.specs.declared.Sizes.{Sizes}
use Rattle.plain_tokens.specs.Meanings.{is_listed}
use Rattle.equivalents.specs.Groups.{Groups}
use Rattle.equivalents.specs.Holding.{lists_held}
use Rattle.plain_machine.specs.States.{Move, made}
use Rattle.plain_machine.specs.Demands.{refusal}
use Rattle.plain_machine.specs.Does.{Did}
use Rattle.plain_machine.specs.Numbers.{groups_of}
use Rattle.input_state.specs.Stored.{Stored, KeepsShared}
use Rattle.engine_state.specs.declared.engine.Engine.{Engine}
use Rattle.engine_state.specs.Book.{Book}
use Rattle.engine_state.specs.Stands.{Stands, state_of}
use Rattle.engine_state.proofs.Grouping.{grouped_did, grouped_stands}
use Rattle.engine_state.proofs.Joining.{IsQuiet}

module _ (e : Engine) (g : Groups) (i : Stored) (is : i ≡ record e.input { groups = g; lists = i.lists }) where
  -- by this move
  pub regrouped_did : (sizes : Sizes) (w : World) (book : Book) (m : Move) → IsQuiet m → refusal sizes m (state_of e book) ≡ None → made m (state_of e book) ≡ record (state_of e book) { groups = groups_of book.number g } →
      Did sizes (state_of e book) (state_of (record e { input = i }) book) w w (m ∷ [])
  regrouped_did = grouped_did e g e.input.closing e.input.ending i.lists i is

  -- no list more is held
  pub regrouped_stands : length g.now.meanings ≡ length e.input.groups.now.meanings → ((n : ℕ) → is_listed (lists_held g) n ≡ true → is_listed (lists_held e.input.groups) n ≡ true) → KeepsShared e.input i →
      (sizes : Sizes) (book : Book) → Stands sizes e book → Stands sizes (record e { input = i }) book
  regrouped_stands = grouped_stands e g e.input.closing e.input.ending i.lists i is
