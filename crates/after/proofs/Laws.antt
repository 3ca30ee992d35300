-- The beginnings: an operation's first job, and what comes after it, are the Rust's function
use Rattle.std.specs.Prelude.{Err, Ok}
use Rattle.hardware.specs.Talk.{Talk, Call, Res, end, ask, and_then, or_stop, ◌>>◌, pick, return}
use Prim.Native.Nat.{ℕ}
use mathlib.Core.Bool.{Bool, true, false}
use mathlib.Core.List.{List, []}
use Rattle.std.specs.Prelude.{None, Some}
use mathlib.Core.Path.{◌≡◌, refl, ap, sym, ◌∙◌, fun_ext}
use lib.Dec.{eqb}
use Rattle.hardware.specs.Block as blk
use Rattle.hardware.specs.declared.Family.{Family}
use Rattle.hardware.specs.declared.Family.TheVariants.{X552, X553}
use Rattle.hardware.specs.declared.Port.{Port}
use Rattle.hardware.proofs.Laws.{then_assoc}
use Rattle.answers.specs.declared.Value.{Value}
use Rattle.answers.specs.declared.Value.TheVariants as value
use Rattle.reference.specs.Hostif.{command, token, token_answer, token_word}
use Rattle.reference.specs.Mdio.{read_reg, abilities}
use Rattle.reference.specs.Bringup.{after_reset}
use Rattle.reference.specs.Out.{answer, nothing}
use Rattle.reference.specs.X552.{mdio_clock, slow_mdio}
use Rattle.reference.specs.X552 as x552
use Rattle.reference.specs.X553.{firmware_phy, slow_device}
use Rattle.reference.specs.X553 as x553
use Rattle.jobs.specs.Token.{token_got, token_words}
use Rattle.jobs.proofs.Bytes.{status_cut}
use Rattle.jobs.specs.Job.{no_word}
use Rattle.phy.specs.Clock.{speed_at, clocked}
use Rattle.after.specs.After.{after_nothing, after_word, after_abilities, after_command}

pub nothing_begun : (t : Call (Unit {0})) → and_then (no_word t) (λ p. after_nothing p.0) ≡ answer nothing t
nothing_begun (end (Ok _)) = refl
nothing_begun (end (Err e)) = refl
nothing_begun (ask a k) = ap (ask a) (fun_ext (λ r. nothing_begun (k r)))

-- what it answers with, of a call's result
then_answer : {A B : Type 0} (t : Talk A) (k : A → Call B) (f : B → Value) → answer f (and_then t k) ≡ and_then t (λ a. answer f (k a))
then_answer t k f =
    ap (λ (u : Talk (Res Value)). and_then u (λ r. end (r, []))) (then_assoc t k (or_stop (λ b. return (f b))))
    ∙ then_assoc t (λ a. and_then (k a) (or_stop (λ b. return (f b)))) (λ r. end (r, []))

pub word_begun : (t : Call ℕ) → and_then (blk.keep t []) (λ p. after_word p.0) ≡ answer value.Word t
word_begun t = simp then_assoc

pub abilities_begun : (port : Port) (phy : ℕ) → and_then (blk.keep (read_reg port phy 1 4) []) (λ p. after_abilities p.0) ≡ answer value.Abilities (abilities port phy)
unfolding abilities
abilities_begun port phy = simp then_assoc

pub token_begun : (port : Port) (take : Bool) → and_then (command port (token_words port.lan take)) (λ p. answer value.Flag (token_got take p.0)) ≡ answer value.Flag (token port take)
unfolding token token_word
token_begun port take =
    sym (then_answer (command port (token_words port.lan take)) (λ p. token_got take p.0) value.Flag)
    ∙ ap (answer value.Flag) (status_cut port (token_words port.lan take) (token_answer take))

pub command_begun : (port : Port) (ws : List ℕ) (n : ℕ)
    → and_then (command port ws) (λ p. after_command n p.0 p.1) ≡ blk.◌>>=◌ (command port) (λ status. blk.return (value.Command status n)) ws
command_begun port ws n = status_cut port ws (λ p. blk.or_stop (λ status. blk.return (value.Command status n)) p.0 p.1)

last : (t : Call (Unit {0})) → t >> return tt ≡ t
last (end (Ok _)) = refl
last (end (Err e)) = refl
last (ask a k) = ap (ask a) (fun_ext (λ r. last (k r)))

set_speed : (slow fast : Bool)
    → pick slow (mdio_clock false >> return tt) (pick fast (mdio_clock true >> return tt) (return tt)) ≡ clocked (pick slow (Some false) (pick fast (Some true) None))
set_speed true fast = last (mdio_clock false)
set_speed false true = last (mdio_clock true)
set_speed false false = refl

slow_speed : (copper : Bool) → pick copper slow_mdio (return tt) ≡ clocked (pick copper (Some false) None)
slow_speed true = refl
slow_speed false = refl

-- `after_reset` of either family
pub reset_begun : (port : Port) (family : Family) → after_reset port family ≡ clocked (speed_at family port.device)
unfolding x552.after_reset x553.after_reset
reset_begun port X552 = slow_speed (eqb port.device 0x15ad)
reset_begun port X553 = set_speed (slow_device port.device) (firmware_phy port.device)
