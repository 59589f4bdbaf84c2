-- The input's parts as all that is stored.
use Rattle.std.specs.Prelude.{◌≡◌, ℕ, ◌+◌, ◌≤◌, List, [], ◌∷◌, length}
use Rattle.input_state.specs.Stored.{Stored}
use Rattle.input_state.specs.HeldLists.{HeldLists, Covered, pending_of}
use Rattle.input_state.specs.FileLeft.{FileLeft, FilesLeft, rooms_end}

-- all that is stored
abbrev pub stored_of : HeldLists → List ℕ → FilesLeft → Stored
stored_of held buffer file = record {
  pending = pending_of held buffer file.files file.next;
  making = held.making;
  call = held.call;
  builds = held.builds;
  buffer = buffer;
  sizes = held.sizes;
  groups = held.groups;
  closing = held.closing;
  ending = held.ending;
  lists = held.lists;
}

-- Each file's line stands within its own room of the buffer, behind the rooms of those beneath it.
abbrev pub AreInRooms : List Covered → List FileLeft → Type 0
AreInRooms [] [] = Unit {0}
AreInRooms (b ∷ bs) (f ∷ fs) = (rooms_end fs ≤ b.line.at) × (b.line.at ≤ b.line.end) × (b.line.end ≤ (1 + f.whole) + rooms_end fs) × AreInRooms bs fs
AreInRooms bs fs = ⊥

-- The files have their lines in the buffer.
pub record IsTied (held : HeldLists) (buffer : List ℕ) (file : FilesLeft) : Type 0 where
  pub lines : AreInRooms held.below file.files
  pub room : rooms_end file.files ≤ length buffer
  pub size : length buffer ≡ held.sizes.buffer_size
  pub file_size : file.buffer_size ≡ held.sizes.buffer_size
  pub file_levels : file.levels ≡ held.sizes.text_input_levels
