-- The proved cases of document 01 in one table: those of words alone, and those of operations as `begin` begins them
use Rattle.std.specs.Prelude.{ℕ, List, [], ◌∷◌, ◌++◌, None, Some, Ok, Err}
use Rattle.hardware.specs.Numbers.{number, values, stop_number}
use Rattle.hardware.specs.Talk.{Reply}
use Rattle.hardware.specs.declared.Stop.TheVariants.{NoReply}
use Rattle.words.specs.Cases.{Case, case, cases}
use Rattle.answers.specs.Fields.{fields}
use Rattle.answers.specs.declared.Internal.TheVariants.{Kr}
use Rattle.reference.specs.Out.{Out}
use Rattle.operations.specs.Example.{Run, ended, due, of, written, at552, holding, exchanged, phy_read, phy_linked}
use Rattle.operations.specs.declared.Operation.{Operation}
use Rattle.operations.specs.declared.Operation.TheVariants.{ReadReg, Probe, NvmWord, Poll}
use Rattle.calls.specs.Conversation.{begun}

-- 0 and the answer's fields, or the error's number and values
abbrev out_words : Out → List ℕ
out_words (Ok v, ws) = 0 ∷ fields v ws
out_words (Err e, ws) = number e ∷ values e

-- 26 where it goes on and no reply is left
abbrev run_words : Run Out → List ℕ
run_words (ended n m out) = out_words out
run_words (due n m a) = stop_number NoReply ∷ []

-- what is begun ends with this on a script
abbrev ends : Operation → List Reply → List ℕ
ends what rs = run_words (of (begun at552 what []).talk rs)

-- and writes this to a register
abbrev sends : ℕ → Operation → List Reply → List ℕ
sends reg what rs = written reg (begun at552 what []).talk rs

-- a poll of a PHY with this status, which the internal link is forced to already
abbrev polled : ℕ → List ℕ
polled status = ends (Poll (record { phy = 3; internal = Kr; forced = Some status; reforced = 0 }) None)
    (phy_linked ++ phy_read status ++ phy_linked)

-- to the second word of the host block
abbrev nvm_sends : ℕ → List ℕ
nvm_sends word = sends 0x15804 (NvmWord word) (holding (exchanged 4 (Ok 0 ∷ [])))

-- case 5: MSCA, the address cycle's command and then the read's; case 8: Up is 1 and Invalid 2, the Watch's fields follow
unfoldable pub all_cases : List Case
all_cases =
    cases
    ++ case 5 (sends 0x425c (ReadReg 3 7 0xc800) (phy_read 0)) (0x4067c800 ∷ 0x4c67c800 ∷ [])
    ∷ case 6 (ends (Probe 31) [] ++ ends (Probe 32) []) (26 ∷ 22 ∷ [])
    ∷ case 8 (polled 7) (0 ∷ 1 ∷ 10000 ∷ 1 ∷ 7 ∷ 0 ∷ [])
    ∷ case 8 (polled 5) (0 ∷ 1 ∷ 1000 ∷ 1 ∷ 5 ∷ 0 ∷ [])
    ∷ case 8 (polled 3) (0 ∷ 2 ∷ 3 ∷ 1 ∷ 3 ∷ 0 ∷ [])
    ∷ case 9 (nvm_sends 0x2c ++ nvm_sends 0xffff) (0x58000000 ∷ 0xfeff0100 ∷ [])
    ∷ []
