-- A conversation: what it says from here on, and its counts
use Rattle.hardware.specs.Talk.{Talk, ask, end, Res, pick}
use Rattle.std.specs.Prelude.{ℕ, ◌+◌, ◌%◌, ◌^◌, Bool, true, false, List, [], ◌∷◌, length, ◌==◌, nat_lt, ltb, Err, Ok, Option, None, Some}
use Rattle.hardware.specs.Bound.{waited}
use Rattle.hardware.specs.declared.Action.{Action}
use Rattle.hardware.specs.declared.Port.{Port}
use Rattle.hardware.specs.declared.Error.TheVariants.{Block}
use Rattle.answers.specs.declared.Value.{Value}
use Rattle.answers.specs.declared.Value.TheVariants as valuev
use Rattle.drive.specs.Act.{uses, reply_for}
use Rattle.reference.specs.Out.{Out}
use Rattle.operations.specs.Operations.{operation}
use Rattle.arguments.specs.declared.Left.{Left}
use Rattle.arguments.specs.declared.Watch.{Watch}
use Rattle.operations.specs.Request.{request, refused}
use Rattle.operations.specs.declared.Operation.{Operation}
use Rattle.hardware.specs.declared.Stop.{Stop}
use Rattle.hardware.specs.declared.Stop.TheVariants as stop

pub record Conv : Type 0 where
  pub port : Port
  pub talk : Talk Out
  pub actions : ℕ
  pub micros : ℕ

abbrev pub conv : Port → Talk Out → ℕ → ℕ → Conv
conv port talk actions micros = record { port = port; talk = talk; actions = actions; micros = micros }

-- a conversation at its start
abbrev pub opening : Port → Talk Out → Conv
opening port t = conv port t 0 0

-- a call that is turned away is a conversation that has ended, with its error
abbrev pub started : Talk Out → Res (Unit {0}) → Talk Out
started t (Err e) = end (Err e, [])
started t (Ok u) = t

-- `begin`: the number of a call that is turned away, or the reference's operation
abbrev pub begun : Port → Operation → List ℕ → Conv
begun port what ws = opening port (started (operation port what ws) (refused port what ws))

-- a conversation keeps up to 16 words itself; of a longer command each step is to be lent so many words
abbrev pub kept_words : ℕ
kept_words = 16

abbrev pub lends : Res (Unit {0}) → ℕ → ℕ
lends (Err e) n = 0
lends (Ok u) n = pick (ltb kept_words n) n 0

abbrev pub to_lend : Port → Operation → List ℕ → ℕ
to_lend port what ws = lends (refused port what ws) (request port what ws).words

-- one action is done, and the conversation goes on as t. The code's counts wrap at 2 ^ 64, which nothing begun comes near
abbrev pub gone : Conv → Action → Talk Out → Conv
gone c a t = conv c.port t ((c.actions + 1) % 2 ^ 64) ((c.micros + waited a) % 2 ^ 64)

-- a single step: how it stopped, and the conversation
pub record Step : Type 0 where
  pub stop : Stop
  pub to : Conv

-- a wait takes a reply of any kind, and uses none
abbrev pub refuses : Action → ℕ → Bool
refuses a kind = pick (uses a == 0) false (nat_lt 1 kind)

-- 24 after the end; 25 for a kind above 1
abbrev pub step_on : Talk Out → Conv → ℕ → ℕ → Step
step_on (end r) c kind value = record { stop = stop.AfterEnd; to = c }
step_on (ask a k) c kind value =
    pick (refuses a kind) (record { stop = stop.BadReply; to = c })
    (record { stop = stop.Done; to = gone c a (k (reply_for a (kind ∷ value ∷ []))) })

abbrev pub step_talk : Conv → ℕ → ℕ → Step
step_talk c kind value = step_on c.talk c kind value

-- why an action is not done: 25 for a kind above 1, then 23 where another number of words is lent than is to be
abbrev pub why_not : Action → ℕ → Bool → Option Stop
why_not a kind lent = pick (refuses a kind) (Some stop.BadReply) (pick lent None (Some stop.Words))

abbrev pub goes_on : Talk Out → Bool
goes_on (end r) = false
goes_on (ask a k) = true

-- a step that is lent another number of words than its conversation remembers: 24 and 25 as of any, else 23
abbrev pub unlent_step : Talk Out → Conv → ℕ → Step
unlent_step (end r) c kind = record { stop = stop.AfterEnd; to = c }
unlent_step (ask a k) c kind = pick (refuses a kind) (record { stop = stop.BadReply; to = c }) (record { stop = stop.Words; to = c })

-- `lent`: whether they are as many
abbrev pub step_lent : Bool → Conv → ℕ → ℕ → Step
step_lent lent c kind value = pick lent (step_talk c kind value) (unlent_step c.talk c kind)

-- the action that is due, none after the end
abbrev pub asked_of : Talk Out → Option Action
asked_of (end r) = None
asked_of (ask a k) = Some a

-- what it has ended with, how many words come with it, and its counts
pub record Answer : Type 0 where
  pub what : Res Value
  pub words : ℕ
  pub actions : ℕ
  pub micros : ℕ

abbrev pub answer_at : Talk Out → Conv → Option Answer
answer_at (end r) c = Some (record { what = r.0; words = length r.1; actions = c.actions; micros = c.micros })
answer_at (ask a k) c = None

-- none while it still runs
abbrev pub answer_of : Conv → Option Answer
answer_of c = answer_at c.talk c

-- a command's words or a list's values go to a lent block of the same length; 23 for another, which is left as it was
abbrev pub given : List ℕ → List ℕ → Res (Unit {0}) × List ℕ
given ws block = pick (length block == length ws) (Ok tt, ws) (Err Block, block)

-- what an ended conversation hands back; one that still runs has nothing to hand back
abbrev pub handed_back : Talk Out → List ℕ → Res (Unit {0}) × List ℕ
handed_back (end r) block = given r.1 block
handed_back (ask a k) block = (Err Block, block)

-- the same of one that remembers how many words are lent (`lent`: whether they are as many): another number is 23
abbrev pub handed_lent : Bool → Talk Out → List ℕ → Res (Unit {0}) × List ℕ
handed_lent lent t block = pick lent (handed_back t block) (Err Block, block)

-- what a poll that ended well leaves in its Watch
abbrev pub left_by : Value → Left → Left
left_by valuev.Nothing own = own
left_by (valuev.Flag f) own = own
left_by (valuev.Word v) own = own
left_by (valuev.Link l) own = own
left_by (valuev.Command status words) own = own
left_by (valuev.List n) own = own
left_by (valuev.Activity ws) own = own
left_by (valuev.Probe id) own = own
left_by (valuev.Scan s) own = own
left_by (valuev.Abilities s) own = own
left_by (valuev.X552 s) own = own
left_by (valuev.X553 s) own = own
left_by (valuev.Poll seen forced reforced) own = record { forced = forced; reforced = reforced }

-- anything else leaves it as it was
abbrev pub left_of : Talk Out → Left → Left
left_of (end (Ok v, ws)) own = left_by v own
left_of (end (Err e, ws)) own = own
left_of (ask a k) own = own

abbrev pub own_of : Watch → Left
own_of w = record { forced = w.forced; reforced = w.reforced }
