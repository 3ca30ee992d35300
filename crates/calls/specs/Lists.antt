-- A list of PHY registers beside single reads of them: what is said of `mdio_list`'s runs and values
use Rattle.std.specs.Prelude.{ℕ, ◌/◌, ◌^◌, ◌==◌, ◌≡◌, ◌≤◌, List, [], ◌∷◌, ◌++◌, Ok, Err}
use Rattle.hardware.specs.Talk.{Talk, Reply, ask, end, and_then, pick}
use Rattle.hardware.specs.declared.Action.{Action}
use Rattle.hardware.specs.declared.Action.TheVariants.{Read, Write, Wait}
use Rattle.hardware.specs.declared.Port.{Port}
use Rattle.words.specs.Mdio.{address, fields}
use Rattle.answers.specs.declared.Value.{Value}
use Rattle.answers.specs.declared.Value.TheVariants as valuev
use Rattle.reference.specs.Acquire.{acquire, release}
use Rattle.reference.specs.Mdio.{mask, read_body}
use Rattle.reference.specs.Out.{Out}
use Rattle.operations.specs.declared.Operation.TheVariants.{ReadReg}
use Rattle.calls.specs.Conversation.{begun}
use Rattle.calls.specs.Run.{Shown}

-- a talk over replies, one for each action: it does these actions, and ends with this
pub data Goes {A : Type 0} : Talk A → List Reply → List Action → A → Type 0 where
  stops : {x : A} → Goes (end x) [] [] x
  does : {a : Action} {k : Reply → Talk A} {r : Reply} {rs : List Reply} {ds : List Action} {x : A}
      → Goes (k r) rs ds x → Goes (ask a k) (r ∷ rs) (a ∷ ds) x

-- it does these actions and ends with this, on some replies
pub record Went {A : Type 0} (t : Talk A) (ds : List Action) (x : A) : Type 0 where
  pub replies : List Reply
  pub goes : Goes t replies ds x

-- ---- a list of one pair is a single read

-- what a single read has ended with, as a list's end
abbrev pub value_as_list : Value → List ℕ → Out
value_as_list (valuev.Word v) ws = (Ok (valuev.List 1), v ∷ [])
value_as_list v ws = (Ok v, ws)

abbrev pub as_list : Out → Out
as_list (Ok v, ws) = value_as_list v ws
as_list (Err e, ws) = (Err e, ws)

abbrev pub listed : Talk Out → Talk Out
listed t = and_then t (λ o. end (as_list o))

-- two runs that did the same actions and stopped alike
pub record Alike (one list : Shown) : Type 0 where
  pub stop : list.stop ≡ one.stop
  pub tape : list.tape ≡ one.tape
  pub talk : list.talk ≡ listed one.talk

-- ---- the actions of a list that ended well

abbrev pub joined : List (List Action) → List Action
joined [] = []
joined (ds ∷ rest) = ds ++ joined rest

-- the single read's body once for each pair, in order, with its value
pub data Bodies (phy : ℕ) : List (ℕ × ℕ) → List (List Action) → List ℕ → Type 0 where
  none : Bodies phy [] [] []
  one : {device register : ℕ} {rest : List (ℕ × ℕ)} {ds : List Action} {more : List (List Action)} {v : ℕ} {vs : List ℕ}
      → Went (read_body (address phy device register)) ds (Ok v) → Bodies phy rest more vs
      → Bodies phy ((device, register) ∷ rest) (ds ∷ more) (v ∷ vs)

-- acquire's actions, then the body's for each pair, then release's
pub record InOneHold (port : Port) (phy : ℕ) (pairs : List (ℕ × ℕ)) (ds : List Action) (values : List ℕ) : Type 0 where
  pub acquired : List Action
  pub read : List (List Action)
  pub released : List Action
  pub parts : ds ≡ acquired ++ (joined read ++ released)
  pub acquires : Went (acquire port (mask port)) acquired (Ok tt)
  pub reads : Bodies phy pairs read values
  pub releases : Went (release port (mask port)) released (Ok tt)

-- ---- the values

-- the word that was last written to MSCA
abbrev pub commanded : ℕ → Action → ℕ
commanded last (Read reg) = last
commanded last (Write reg v) = pick (reg == 0x425c) v last
commanded last (Wait micros) = last

-- a read of MSRWD gives the value of the register that it names; a failure may be anything
abbrev pub Gives : (ℕ → ℕ → ℕ → ℕ) → ℕ → Action → Reply → Type 0
Gives value last (Read reg) (Ok w) = reg ≡ 0x4260 → w / 2 ^ 16 ≡ value (fields last).phy (fields last).device (fields last).register
Gives value last (Read reg) (Err code) = Unit {0}
Gives value last (Write reg v) r = Unit {0}
Gives value last (Wait micros) r = Unit {0}

abbrev pub Gave : (ℕ → ℕ → ℕ → ℕ) → ℕ → List Action → List Reply → Type 0
Gave value last [] rs = Unit {0}
Gave value last (a ∷ ds) [] = Unit {0}
Gave value last (a ∷ ds) (r ∷ rs) = Gives value last a r × Gave value (commanded last a) ds rs

-- a single read that ended well with this word, on replies that give the registers these values
pub record Single (value : ℕ → ℕ → ℕ → ℕ) (port : Port) (phy device register word : ℕ) : Type 0 where
  pub last : ℕ
  pub replies : List Reply
  pub actions : List Action
  pub goes : Goes (begun port (ReadReg phy device register) []).talk replies actions (Ok (valuev.Word word), [])
  pub gave : Gave value last actions replies

-- one of each pair
pub data Singles (value : ℕ → ℕ → ℕ → ℕ) (port : Port) (phy : ℕ) : List (ℕ × ℕ) → List ℕ → Type 0 where
  no_singles : Singles value port phy [] []
  one_more : {device register word : ℕ} {rest : List (ℕ × ℕ)} {words : List ℕ} → register ≤ 0xffff
      → Single value port phy device register word → Singles value port phy rest words
      → Singles value port phy ((device, register) ∷ rest) (word ∷ words)
