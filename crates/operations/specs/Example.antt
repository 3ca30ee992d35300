-- Runs over a list of replies, for worked examples
use Rattle.std.specs.Prelude.{ℕ, zero, suc, ◌+◌, ◌*◌, ◌^◌, ◌==◌, Bool, true, false, List, [], ◌∷◌, ◌++◌, Ok, Err}
use Rattle.hardware.specs.Talk.{Talk, end, ask, Reply}
use Rattle.hardware.specs.declared.Action.{Action}
use Rattle.hardware.specs.declared.Action.TheVariants.{Read, Write, Wait}
use Rattle.hardware.specs.declared.Family.TheVariants.{X552, X553}
use Rattle.hardware.specs.declared.Port.{Port}
use Rattle.words.specs.Hostif.{swap_bytes}

-- Ports. Copper, with an X557
abbrev pub at552 : Port
at552 = record { family = X552; device = 0x15ad; lan = 0; pause = 10 }

-- its other port
abbrev pub other552 : Port
other552 = record { family = X552; device = 0x15ad; lan = 1; pause = 10 }

abbrev pub kr552 : Port
kr552 = record { family = X552; device = 0x15ab; lan = 0; pause = 10 }

-- copper, with an X557
abbrev pub at553 : Port
at553 = record { family = X553; device = 0x15c8; lan = 1; pause = 10 }

abbrev pub backplane553 : Port
backplane553 = record { family = X553; device = 0x15c2; lan = 0; pause = 10 }

abbrev pub sgmii553 : Port
sgmii553 = record { family = X553; device = 0x15c6; lan = 0; pause = 10 }

-- its PHY is the firmware's
abbrev pub firmware553 : Port
firmware553 = record { family = X553; device = 0x15e4; lan = 0; pause = 10 }

-- how it stands after so many actions and microseconds: ended with an answer, or an action is due and no reply is left
pub data Run (A : Type 0) : Type 0 where
  ended : (actions micros : ℕ) → A → Run A
  due : (actions micros : ℕ) → Action → Run A

-- a wait uses no reply
abbrev pub run : {A : Type 0} → ℕ → ℕ → Talk A → List Reply → Run A
run n m (end a) rs = ended n m a
run n m (ask (Wait micros) k) rs = run (n + 1) (m + micros) (k (Ok 0)) rs
run n m (ask (Read reg) k) [] = due n m (Read reg)
run n m (ask (Read reg) k) (r ∷ rs) = run (n + 1) m (k r) rs
run n m (ask (Write reg v) k) [] = due n m (Write reg v)
run n m (ask (Write reg v) k) (r ∷ rs) = run (n + 1) m (k r) rs

abbrev pub of : {A : Type 0} → Talk A → List Reply → Run A
of t rs = run 0 0 t rs

-- the actions that are done
abbrev pub done_on : {A : Type 0} → Talk A → List Reply → List Action
done_on (end a) rs = []
done_on (ask (Wait micros) k) rs = Wait micros ∷ done_on (k (Ok 0)) rs
done_on (ask (Read reg) k) [] = []
done_on (ask (Read reg) k) (r ∷ rs) = Read reg ∷ done_on (k r) rs
done_on (ask (Write reg v) k) [] = []
done_on (ask (Write reg v) k) (r ∷ rs) = Write reg v ∷ done_on (k r) rs

abbrev with_it : Bool → ℕ → List ℕ → List ℕ
with_it true v vs = v ∷ vs
with_it false v vs = vs

-- the values that these write to a register
abbrev values_to : ℕ → List Action → List ℕ
values_to reg [] = []
values_to reg (Read r ∷ rest) = values_to reg rest
values_to reg (Write r v ∷ rest) = with_it (r == reg) v (values_to reg rest)
values_to reg (Wait micros ∷ rest) = values_to reg rest

-- the values that are written to a register
abbrev pub written : {A : Type 0} → ℕ → Talk A → List Reply → List ℕ
written reg t rs = values_to reg (done_on t rs)

-- Replies. The same so many times
abbrev pub copies : ℕ → List Reply → List Reply
copies zero rs = []
copies (suc n) rs = rs ++ copies n rs

abbrev pub zeros : ℕ → List Reply
zeros n = copies n (Ok 0 ∷ [])

-- the host's failure, with its code
abbrev pub failed : ℕ → Reply
failed code = Err (record { 0 = code })

abbrev pub ones : Reply
ones = Ok 0xffffffff

-- the bits are free and are taken; what is done while they are held; they are given back
abbrev pub holding : List Reply → List Reply
holding rs = zeros 9 ++ rs ++ zeros 9

-- two MDIO cycles are done, and MSRWD has what was read
abbrev pub cycled : ℕ → List Reply
cycled v = zeros 4 ++ (Ok (v * 2 ^ 16) ∷ [])

-- on the X552, a PHY's register is read as v; one is written; one is read as v and is written
abbrev pub phy_read : ℕ → List Reply
phy_read v = holding (cycled v)

abbrev pub phy_written : List Reply
phy_written = holding (zeros 5)

abbrev pub phy_changed : ℕ → List Reply
phy_changed v = phy_read v ++ phy_written

-- its link is up at the second look
abbrev pub phy_linked : List Reply
phy_linked = phy_read 0 ++ phy_read 4

-- a KR register is v; one is written; one is v and is written
abbrev pub kr_is : ℕ → List Reply
kr_is v = holding (zeros 3 ++ (Ok v ∷ []))

abbrev pub kr_written : List Reply
kr_written = holding (zeros 4)

abbrev pub kr_changed : ℕ → List Reply
kr_changed v = kr_is v ++ kr_written

-- n words to the firmware: FWSTS, HICR with EN, the words, C; then HICR with SV, and what is read of its reply
abbrev pub exchanged : ℕ → List Reply → List Reply
exchanged n reply = Ok 0 ∷ Ok 0 ∷ Ok 1 ∷ zeros (n + 1) ++ (Ok 4 ∷ reply)

-- the firmware gives its token, or takes it back; it does not
abbrev pub granted : List Reply
granted = holding (exchanged 2 (Ok 0x10000 ∷ []))

abbrev pub busy : List Reply
busy = holding (exchanged 2 (Ok 0x800000 ∷ []))

-- on the X553, with the token
abbrev pub phy553_read : ℕ → List Reply
phy553_read v = holding (granted ++ cycled v ++ granted)

abbrev pub phy553_written : List Reply
phy553_written = holding (granted ++ zeros 5 ++ granted)

abbrev pub phy553_changed : ℕ → List Reply
phy553_changed v = phy553_read v ++ phy553_written

-- an activity of the firmware's PHY answers with w0, w1, 0, 0
abbrev pub active : ℕ → ℕ → List Reply
active w0 w1 = holding (exchanged 6 (Ok 0x11000 ∷ Ok (swap_bytes w0) ∷ Ok (swap_bytes w1) ∷ zeros 2))
