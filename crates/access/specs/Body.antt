-- What the suspended closure of a `locked` still says, with the host block
use Rattle.hardware.specs.Told.{told}
use Rattle.hardware.specs.declared.Action.{Action}
use Rattle.hardware.specs.declared.Step.{Step}
use Rattle.hardware.specs.Talk.{Talk, Call, Reply, Res, end}
use Rattle.hardware.specs.Block.{keep}
use Rattle.hardware.specs.declared.Port.{Port}
use Rattle.std.specs.Prelude.{ℕ, ◌+◌, List, [], take, drop, set, Ok, Err}
use Rattle.reference.specs.Sync.{plain}
use Rattle.reference.specs.Acquire.{locked}
use Rattle.reference.specs.Mdio.{list_body}
use Rattle.reference.specs.X552.{nvm_body}
use Rattle.jobs.specs.Job.{zeroed_list}
use Rattle.jobs.specs.List.{pairs_in}
use Rattle.mdio.specs.Mdio.{body_of, resume_mdio}
use Rattle.sideband.specs.Kr.{kr_body, resume_kr}
use Rattle.sideband.specs.Nvm.{resume_nvm}
use Rattle.sideband.specs.declared.kr_access.KrCall.{KrCall}
use Rattle.sideband.specs.declared.kr_access.KrWanted.{KrWanted}
use Rattle.access.specs.declared.body.Held.{Held}
use Rattle.access.specs.declared.body.Held.TheVariants as held
use Rattle.access.specs.declared.body.Body.{Body}
use Rattle.access.specs.declared.body.Body.TheVariants as body

-- the closure itself
abbrev pub held_talk : Held → Call ℕ
held_talk (held.Mdio w) = body_of w
held_talk (held.Kr c) = kr_body c.pause c.wanted
held_talk (held.Nvm word) = nvm_body word

abbrev pub resume_body : Body → List ℕ → Reply → Call ℕ
resume_body (body.Mdio w s) b r = resume_mdio w s r
resume_body (body.Kr c s) b r = resume_kr c.pause c.wanted s r
resume_body (body.Nvm s) b r = resume_nvm s b r

abbrev pub told_body : List ℕ → Step Action Body (Res ℕ) → Call ℕ
told_body b = told (λ s r. resume_body s b r)

-- with the port's pause
abbrev pub kr_call : Port → KrWanted → KrCall
kr_call port w = record { pause = port.pause; wanted = w }

-- what is done under a lock, with a word for each
abbrev pub under_talk : Port → ℕ → Held → Talk (Res ℕ × List ℕ)
under_talk port mask h = keep (locked plain port mask (held_talk h)) []

-- a list from pair i of n on, over its words: the values of the pairs before it, then pairs
abbrev pub list_from : (phy i n : ℕ) → List ℕ → Talk (Res ℕ × List ℕ)
list_from phy i n ws = zeroed_list (list_body phy (pairs_in (drop i (take n ws))) (take i ws))

-- once pair i has been read: its value takes its place, and the next is read; an error comes with the values before it
abbrev pub list_got : (phy i n : ℕ) → List ℕ → Res ℕ → Talk (Res ℕ × List ℕ)
list_got phy i n ws (Ok v) = list_from phy (i + 1) n (set ws i v)
list_got phy i n ws (Err e) = end (Err e, take i ws)
