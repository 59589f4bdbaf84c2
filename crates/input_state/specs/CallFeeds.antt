-- What a token comes to in a call whose arguments are gathered.
use Rattle.std.specs.Prelude.{◌≡◌, ◌<◌, List, [], ◌∷◌, ◌++◌, length, drop, Bool, true, false, Option, None, Some, unwrap_or}
use Rattle.tex_defs.specs.declared.Token.{Token}
use Rattle.tex_defs.specs.declared.Name.{Name}
use Rattle.plain_tokens.specs.Arguments.{Fed, Tok, Answer, More, ExtraBraceFound, Called, Mismatch, Ended, arguments, arguments_in, work_in}
use Rattle.macro_call.specs.declared.ask.CallAsk.{CallAsk}
use Rattle.macro_call.specs.declared.ask.CallAsk.TheVariants as ask
use Rattle.macro_call.specs.PlainScans.{Scan, scan_work, with_work, resume_scan, places_left}
use Rattle.macro_call.specs.Scans.{args_with}
use Rattle.macro_call.specs.Growths.{target_of, growth_of}
use Rattle.input_state.specs.Callings.{Calling, NotCalling, Gathering, Stopped, Gathered, scan_asks, ended_asks}
use Rattle.input_state.specs.declared.answer.CallEnd.TheVariants as end

-- the call takes tokens
abbrev pub IsTaking : Calling → Type 0
IsTaking NotCalling = ⊥
IsTaking (Gathering name scan) = Unit {0}
IsTaking (Stopped name why scan) = ⊥
IsTaking (Gathered name args) = ⊥

-- THE ANSWER

-- what the answer says where the scanner then stands so; a call with all its arguments has no scanner
abbrev pub Says : CallAsk → Scan → Answer → Type 0
Says ask.More scan a = a ≡ More scan.args (scan_work scan)
Says ask.ExtraBrace scan a = a ≡ ExtraBraceFound scan.args (unwrap_or (scan_work scan) [])
Says ask.Gathered scan a = ⊥
Says ask.Mismatch scan a = a ≡ Mismatch
Says (ask.ParEnded silent) scan a = a ≡ Ended silent scan.args (unwrap_or (scan_work scan) [])

abbrev pub goes_on : CallAsk → Bool
goes_on ask.More = true
goes_on ask.ExtraBrace = true
goes_on ask.Gathered = false
goes_on ask.Mismatch = false
goes_on (ask.ParEnded silent) = false

-- The arguments and the list in work are those of the definition's answer.
pub record IsAnswer (text : List Token) (t : Token) (answer : CallAsk) (scan next : Scan) : Type 0 where
  pub says : Says answer next (resume_scan text scan (Tok t ∷ []))
  pub args : next.args ≡ arguments_in (resume_scan text scan (Tok t ∷ []))
  pub work : scan_work next ≡ work_in (resume_scan text scan (Tok t ∷ []))

-- Where more is taken, all that follows comes to what the definition says.
pub record GoesOn (text : List Token) (t : Token) (scan next : Scan) : Type 0 where
  pub stands : IsAnswer text t (scan_asks next) scan next
  pub same : (fed : List Fed) → resume_scan text scan (Tok t ∷ fed) ≡ resume_scan text next fed

pub record Ends (text : List Token) (t : Token) (answer : CallAsk) (scan next : Scan) : Type 0 where
  pub stands : IsAnswer text t answer scan next
  pub closed : goes_on answer ≡ false

-- the call of this name, whose scanner stood so
abbrev pub Comes : (text : List Token) → Token → Name → Scan → Calling → Type 0
Comes text t name scan NotCalling = ⊥
Comes text t name scan (Gathering n next) = (n ≡ name) × GoesOn text t scan next
Comes text t name scan (Stopped n why next) = (n ≡ name) × Ends text t (ended_asks why) scan next
Comes text t name scan (Gathered n args) = (n ≡ name) × (resume_scan text scan (Tok t ∷ []) ≡ Called args)

-- it comes to this, where the names have these lists
abbrev pub Feeds : (text : Name → List Token) → Token → (old new : Calling) → Type 0
Feeds text t NotCalling new = ⊥
Feeds text t (Gathering name scan) new = Comes (text name) t name scan new
Feeds text t (Stopped name why scan) new = ⊥
Feeds text t (Gathered name args) new = ⊥

-- the tokens that go into the list in work
abbrev pub scan_growth : (text : List Token) → Token → Scan → List Token
scan_growth text t scan = growth_of (resume_scan text scan []) (resume_scan text scan (Tok t ∷ []))

abbrev pub growth : (text : Name → List Token) → Token → Calling → List Token
growth text t NotCalling = []
growth text t (Gathering name scan) = scan_growth (text name) t scan
growth text t (Stopped name why scan) = []
growth text t (Gathered name args) = []

-- THE MEMORY IS FULL

-- Within a growth: the list in work has some of the tokens that go into it, from the first on, and not all.
pub record IsCutInGrowth (text : List Token) (t : Token) (scan next : Scan) : Type 0 where
  pub was : List Token
  pub front : List Token
  pub behind : List Token
  pub before : scan_work scan ≡ Some was
  pub whole : scan_growth text t scan ≡ front ++ behind
  pub some : 0 < length behind
  pub after : next ≡ with_work scan (was ++ front)

-- In front of a place: the argument that was gathered is whole, and the next one's list isn't begun.
pub record IsCutBetween (text : List Token) (t : Token) (scan next : Scan) : Type 0 where
  pub none : next.present ≡ None
  pub mode : next.mode ≡ scan.mode
  pub unbraced : next.braced ≡ false
  pub args : next.args ≡ args_with scan.present scan.args (target_of (resume_scan text scan []) (resume_scan text scan (Tok t ∷ [])))
  pub due : resume_scan text scan (Tok t ∷ []) ≡ More next.args (Some [])
  pub same : (fed : List Fed) → resume_scan text scan (Tok t ∷ fed) ≡ arguments next.mode next.args (places_left next.args (drop next.at text)) fed

pub data IsCut (text : List Token) (t : Token) (scan next : Scan) : Type 0 where
  InGrowth : IsCutInGrowth text t scan next → IsCut text t scan next
  Between : IsCutBetween text t scan next → IsCut text t scan next

abbrev pub CutTo : (text : List Token) → Token → Name → Scan → Calling → Type 0
CutTo text t name scan NotCalling = ⊥
CutTo text t name scan (Gathering n next) = ⊥
CutTo text t name scan (Stopped n why next) = (n ≡ name) × (why ≡ end.Full) × IsCut text t scan next
CutTo text t name scan (Gathered n args) = ⊥

abbrev pub CutShort : (text : Name → List Token) → Token → (old new : Calling) → Type 0
CutShort text t NotCalling new = ⊥
CutShort text t (Gathering name scan) new = CutTo (text name) t name scan new
CutShort text t (Stopped name why scan) new = ⊥
CutShort text t (Gathered name args) new = ⊥

-- CHECKS AND REPORTS

-- the scanner of a call that takes tokens stands otherwise
abbrev pub with_scan : (Scan → Scan) → Calling → Calling
with_scan f NotCalling = NotCalling
with_scan f (Gathering name scan) = Gathering name (f scan)
with_scan f (Stopped name why scan) = Stopped name why scan
with_scan f (Gathered name args) = Gathered name args

-- the list in work, for the runaway text
abbrev pub call_work : Calling → Option (List Token)
call_work NotCalling = None
call_work (Gathering name scan) = scan_work scan
call_work (Stopped name why scan) = scan_work scan
call_work (Gathered name args) = None
