-- What a job says: a word, and the words of the block that belong to it; and what a step says that asks for jobs
use Rattle.hardware.specs.declared.Step.{Step}
use Rattle.hardware.specs.declared.Step.TheVariants as step
use Rattle.hardware.specs.Talk.{Talk, Call, Res, and_then, end, read, write, delay}
use Rattle.std.specs.Prelude.{ℕ, List, [], take, Ok, Err}
use Rattle.hardware.specs.Block.{keep}
use Rattle.hardware.specs.declared.Port.{Port}
use Rattle.reference.specs.Hostif.{command}
use Rattle.reference.specs.Mdio.{read_reg, list_held, write_reg}
use Rattle.reference.specs.X552.{kr_read, kr_write, nvm_word}
use Rattle.jobs.specs.List.{list_of, pairs_in}
use Rattle.jobs.specs.declared.job.Job.{Job}
use Rattle.jobs.specs.declared.job.Job.TheVariants as job

-- what gives no word gives 0
abbrev pub zero_of : Res (Unit {0}) → Res ℕ
zero_of (Ok _) = Ok 0
zero_of (Err e) = Err e

abbrev pub zeroed : Call (Unit {0}) → Call ℕ
zeroed t = and_then t (λ u. end (zero_of u))

-- and no words of the block
abbrev pub no_word : Call (Unit {0}) → Talk (Res ℕ × List ℕ)
no_word t = keep (zeroed t) []

-- a list, with its values
abbrev pub zeroed_list : Talk (Res (Unit {0}) × List ℕ) → Talk (Res ℕ × List ℕ)
zeroed_list t = and_then t (λ p. end (zero_of p.0, p.1))

abbrev pub job_talk : Port → Job → List ℕ → Talk (Res ℕ × List ℕ)
job_talk port (job.Read reg) b = keep (read reg) []
job_talk port (job.Write reg value) b = no_word (write reg value)
job_talk port (job.Wait micros) b = no_word (delay micros)
job_talk port (job.Command words) b = command port (take words b)
job_talk port (job.ReadReg phy device reg) b = keep (read_reg port phy device reg) []
job_talk port (job.ReadList phy n) b = zeroed_list (list_held port phy (pairs_in (take n (list_of b))))
job_talk port (job.WriteReg phy device reg value) b = no_word (write_reg port phy device reg value)
job_talk port (job.KrRead address) b = keep (kr_read port.pause port address) []
job_talk port (job.KrWrite address value) b = no_word (kr_write port.pause port address value)
job_talk port (job.NvmWord word) b = keep (nvm_word port word) []

-- its answer, or the job and how its state goes on from what the job gave
abbrev pub told_job : {S A : Type 0} → Port → List ℕ → (S → Res ℕ → List ℕ → Talk A) → Step Job S A → Talk A
told_job port b resume (step.Ask job s) = and_then (job_talk port job b) (λ p. resume s p.0 p.1)
told_job port b resume (step.Done r) = end r

-- the same where something is made of its answer
abbrev pub told_job_by : {S A B : Type 0} → (A → B) → Port → List ℕ → (S → Res ℕ → List ℕ → Talk B) → Step Job S A → Talk B
told_job_by give port b resume (step.Ask job s) = and_then (job_talk port job b) (λ p. resume s p.0 p.1)
told_job_by give port b resume (step.Done r) = end (give r)
