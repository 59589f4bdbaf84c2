-- Where commands stand, and the lists that they keep.
use Rattle.std.proofs.Common.{◌≡◌, Bool, true, false, List, [], ◌∷◌, refl, sym, ap, ◌∙◌}
use Rattle.tex_defs.specs.declared.Name.{Name}
use Rattle.tex_defs.specs.declared.Token.{Token}
use Rattle.plain_tokens.specs.Puts.{list_of_tokens}
use Rattle.rows.specs.declared.words.Value.{Value}
use Rattle.rows.specs.declared.words.Value.TheVariants as value
use Rattle.rows.specs.declared.command.Call.{Call}
use Rattle.rows.specs.declared.command.Effect.{Effect}
use Rattle.rows.specs.Readings.{Fed, Val}
use Rattle.rows.specs.Commands.{ActsOn, Defines, command_ask}
use Rattle.row_frames.specs.declared.frame.RowFrame.{RowFrame}
use Rattle.row_frames.specs.Resumes.{resume}
use Rattle.plain_readings.specs.Readings.{kept_list}
use Rattle.reading_frames.specs.Views.{Lists, top_list, has_no_token, kept_list_of}
use Rattle.reading_frames.specs.Resumes.{resume_command, command_lists, has_list, with_list, IsOver, keeps}
use Rattle.reading_frames.specs.declared.command.CommandScan.{CommandScan}
use Rattle.reading_frames.specs.declared.command.CommandScan.TheVariants as command
use Rattle.reading_frames.proofs.Over.{over_behind}
use Rattle.reading_frames.proofs.Plain.{plain_value}

-- a row that is over with a list, which is this one
pub acts_on : (c : Call) (e : Effect) (ts us : List Token) (f : RowFrame) (y : Fed) (fed : List Fed) → resume f (y ∷ []) ≡ ActsOn c e ts → ts ≡ us → resume f (y ∷ fed) ≡ ActsOn c e us
acts_on c e ts us f y fed h same = over_behind f y h tt fed ∙ ap (λ (vs : List Token). ActsOn c e vs) same

pub defines : (c : Call) (n : Name) (ts us : List Token) (f : RowFrame) (y : Fed) (fed : List Fed) → resume f (y ∷ []) ≡ Defines c n ts → ts ≡ us → resume f (y ∷ fed) ≡ Defines c n us
defines c n ts us f y fed h same = over_behind f y h tt fed ∙ ap (λ (vs : List Token). Defines c n vs) same

-- THE LIST OF A COMMAND THAT IS OVER

full_list : (ts : List Token) → has_no_token ts ≡ false → list_of_tokens ts ≡ ts ∷ []
full_list [] h = absurd cc
full_list (t ∷ ts) h = refl

-- where a list that is listed has a token, the list that is kept is the one that is held
pub kept_lists : (s : CommandScan) (listed : Bool) (held : Lists) (fed : List Fed) → IsOver s listed → (has_list s ≡ true → has_no_token (top_list held) ≡ false) →
    kept_list (command_ask (resume_command s held fed)) ≡ command_lists s held fed
kept_lists (command.Reads f) listed held fed over full = absurd over
kept_lists (command.Acts c e) listed held fed over full = refl
kept_lists (command.ActsOn c e true) listed held fed over full = full_list (top_list held) (full refl)
kept_lists (command.ActsOn c e false) listed held fed over full = refl
kept_lists (command.Defines c n true) listed held fed over full = full_list (top_list held) (full refl)
kept_lists (command.Defines c n false) listed held fed over full = refl
kept_lists command.Ended listed held fed over full = refl

pub over_listed : (s : CommandScan) (listed : Bool) → IsOver s listed → has_list s ≡ true → listed ≡ true
over_listed (command.Reads f) listed over h = absurd over
over_listed (command.Acts c e) listed over h = absurd cc
over_listed (command.ActsOn c e l) listed over h = sym over ∙ h
over_listed (command.Defines c n l) listed over h = sym over ∙ h
over_listed command.Ended listed over h = absurd cc

-- a token or a note brings no list
pub unlisted : (s : CommandScan) → IsOver s false → has_list s ≡ false
unlisted (command.Reads f) over = absurd over
unlisted (command.Acts c e) over = refl
unlisted (command.ActsOn c e l) over = over
unlisted (command.Defines c n l) over = over
unlisted command.Ended over = refl

pub bare_lists : (s : CommandScan) (held : Lists) (fed : List Fed) → IsOver s false → kept_list (command_ask (resume_command s held fed)) ≡ command_lists s held fed
bare_lists s held fed over = kept_lists s false held fed over (λ (h : has_list s ≡ true). let e : false ≡ true = over_listed s false over h in absurd cc)

-- THE LIST OF A VALUE

unkept : (f : RowFrame) (v : Value) (b : Bool) (ts : List Token) (fed : List Fed) → keeps v b ≡ false → b ≡ has_no_token ts → resume f (Val v ts ∷ fed) ≡ resume f (Val v [] ∷ fed)
unkept f value.List b [] fed k e = refl
unkept f value.List true (t ∷ ts) fed k e = absurd cc
unkept f value.List false (t ∷ ts) fed k e = absurd cc
unkept f (value.Plain d) b ts fed k e = plain_value f d ts [] fed

-- what is over asks for the same, whichever lists are held beneath its own
same_over : (s : CommandScan) (listed : Bool) (ts : List Token) (held : Lists) (fed : List Fed) → IsOver s listed →
    resume_command s (with_list listed ts held) fed ≡ resume_command s (with_list (has_list s) ts held) fed
same_over (command.Reads f) listed ts held fed over = absurd over
same_over (command.Acts c e) listed ts held fed over = refl
same_over (command.ActsOn c e l) listed ts held fed over = ap (λ (b : Bool). resume_command (command.ActsOn c e l) (with_list b ts held) fed) (sym over)
same_over (command.Defines c n l) listed ts held fed over = ap (λ (b : Bool). resume_command (command.Defines c n l) (with_list b ts held) fed) (sym over)
same_over command.Ended listed ts held fed over = refl

pub valued : (f : RowFrame) (v : Value) (b listed : Bool) (s : CommandScan) → listed ≡ keeps v b → IsOver s listed →
    ((ts : List Token) (held : Lists) (fed : List Fed) → ts ≡ kept_list_of listed held → resume f (Val v ts ∷ fed) ≡ resume_command s held fed) →
    (ts : List Token) → b ≡ has_no_token ts → (held : Lists) (fed : List Fed) → resume f (Val v ts ∷ fed) ≡ resume_command s (with_list (has_list s) ts held) fed
valued f v b true s k over h ts e held fed = h ts (ts ∷ held) fed refl ∙ same_over s true ts held fed over
valued f v b false s k over h ts e held fed = unkept f v b ts fed (sym k) e ∙ h [] held fed refl ∙ same_over s false ts held fed over

pub keeps_full : (v : Value) (b : Bool) → keeps v b ≡ true → b ≡ false
keeps_full value.List true h = absurd cc
keeps_full value.List false h = refl
keeps_full (value.Plain d) b h = absurd cc

top_full : (b : Bool) (ts : List Token) (held : Lists) → has_no_token ts ≡ false → b ≡ true → has_no_token (top_list (with_list b ts held)) ≡ false
top_full true ts held h e = h
top_full false ts held h e = absurd cc

pub value_lists : (s : CommandScan) (v : Value) (b listed : Bool) (ts : List Token) (held : Lists) (fed : List Fed) → listed ≡ keeps v b → IsOver s listed → b ≡ has_no_token ts →
    kept_list (command_ask (resume_command s (with_list (has_list s) ts held) fed)) ≡ command_lists s (with_list (has_list s) ts held) fed
value_lists s v b listed ts held fed k over e =
    kept_lists s listed (with_list (has_list s) ts held) fed over
    (λ (h : has_list s ≡ true). top_full (has_list s) ts held (sym e ∙ keeps_full v b (sym k ∙ over_listed s listed over h)) h)
