-- What a suspended `poll` still says, from what its job gives
use Rattle.jobs.specs.declared.job.Job.{Job}
use Rattle.jobs.specs.Job.{told_job_by}
use Rattle.hardware.specs.declared.Step.{Step}
use Rattle.hardware.specs.Talk.{Call, Res, end, pick, return, ◌>>=◌, ◌>>◌}
use Rattle.std.specs.Prelude.{ℕ, ◌%◌, Bool, List, Err, Ok}
use Rattle.hardware.specs.declared.Port.{Port}
use Rattle.words.specs.Link as words
use Rattle.answers.specs.declared.Copper.{Copper}
use Rattle.answers.specs.declared.Copper.TheVariants as copperv
use Rattle.reference.specs.Mdio.{an_link}
use Rattle.reference.specs.Watch.{polled, poll_force, poll_forced}
use Rattle.reference.specs.Window.{Due, due_speed, due_down, due_up, settle, window_poll}
use Rattle.reference.specs.Watch as reference
use Rattle.kr.specs.Sequence.{resume_sequence}
use Rattle.phy.specs.AnLink.{resume_an_link}
use Rattle.watch.specs.declared.poll.Poll.{Poll}
use Rattle.watch.specs.declared.poll.Poll.TheVariants as pollv
use Rattle.watch.specs.declared.poll.Polled.{Polled}
use Rattle.arguments.specs.declared.Watch.{Watch}
use Rattle.arguments.specs.declared.Windowed.{Windowed}

-- the reference's functions, of this Watch
abbrev pub settle_of : Port → Windowed → Due → Call reference.Polled
settle_of port a d = settle a.inside port.pause port a.watch.internal a.watch.forced a.watch.reforced d

abbrev pub poll_of : Port → Windowed → Call reference.Polled
poll_of port a = window_poll a.inside port.pause port a.watch.phy a.watch.internal a.watch.forced a.watch.reforced

abbrev pub same_of : Watch → Copper → Call reference.Polled
same_of w seen = polled seen w.forced w.reforced

abbrev pub held_of : Watch → ℕ → Call reference.Polled
held_of w megabits = same_of w (copperv.Held megabits)

abbrev pub force_of : Port → Watch → ℕ → ℕ → Call reference.Polled
force_of port w status megabits = poll_force port.pause port w.reforced status megabits w.internal

-- what is due at a status, and what comes then
abbrev pub due_at : Watch → ℕ → Due
due_at w status = due_speed w.forced w.reforced status (words.copper status)

abbrev pub speed_of : Port → Windowed → ℕ → Call reference.Polled
speed_of port a status = settle_of port a (due_at a.watch status)

-- what comes after each of its parts
abbrev pub force_then : Watch → ℕ → ℕ → Call ℕ → Call reference.Polled
force_then w status megabits t = t >> poll_forced w.reforced status megabits

abbrev pub due_second : Watch → ℕ → Call Bool → Call Due
due_second w status t = t >>= λ up. return (pick up (due_at w status) (due_down w.reforced))

abbrev pub second_then : Port → Windowed → ℕ → Call Bool → Call reference.Polled
second_then port a status t = due_second a.watch status t >>= settle_of port a

abbrev pub first_then : Port → Windowed → Call Bool → Call reference.Polled
first_then port a t =
    (t >>= λ up. pick up (due_up port a.watch.phy a.watch.forced a.watch.reforced) (return (due_down a.watch.reforced))) >>= settle_of port a

abbrev pub got_status : Port → Windowed → Res ℕ → Call reference.Polled
got_status port a got = (end got >>= λ v. due_second a.watch (v % 8) (an_link port a.watch.phy)) >>= settle_of port a

abbrev pub resume_poll : Port → Windowed → Poll → Res ℕ → Call reference.Polled
resume_poll port a (pollv.First s) got = first_then port a (resume_an_link port a.watch.phy s got)
resume_poll port a pollv.Status got = got_status port a got
resume_poll port a (pollv.Second status s) got = second_then port a status (resume_an_link port a.watch.phy s got)
resume_poll port a (pollv.Force status megabits s) got = force_then a.watch status megabits (resume_sequence port s got)

abbrev pub polled_of : Res Polled → Res reference.Polled
polled_of (Ok p) = Ok (record { copper = p.copper; forced = p.left.forced; reforced = p.left.reforced })
polled_of (Err e) = Err e

abbrev pub told_poll : Port → Windowed → List ℕ → Step Job Poll (Res Polled) → Call reference.Polled
told_poll port a b = told_job_by polled_of port b (λ s got _. resume_poll port a s got)
