-- What a suspended access still says, with the block as it is: a word, and the words of the block that belong to it, the first
-- ones. No port is asked: all that comes of it is in the frame
use Rattle.hardware.specs.declared.Action.{Action}
use Rattle.hardware.specs.declared.Step.{Step}
use Rattle.hardware.specs.Talk.{Talk, Call, Res, and_then, end, ◌>>=◌, ◌>>◌, attempt, checked, done, Reply}
use Rattle.hardware.specs.Told.{told_by}
use Rattle.hardware.specs.Block.{Blk, keep}
use Rattle.std.specs.Prelude.{ℕ, Bool, true, false, List, [], take, Ok}
use Rattle.reference.specs.Sync.{plain, with_block, with_values, held_taken, held_done, held_given}
use Rattle.reference.specs.Acquire.{acquire_lost, forget}
use Rattle.reference.specs.Hostif.{exchange}
use Rattle.sync.specs.Sync.{give_bits, resume_sync}
use Rattle.sync.specs.declared.sync.SyncCall.{SyncCall}
use Rattle.hostif.specs.Exchange.{resume_exchange}
use Rattle.hostif.specs.declared.exchange.Exchange.{Exchange}
use Rattle.jobs.specs.Job.{zero_of, no_word}
use Rattle.jobs.specs.List.{list_of}
use Rattle.jobs.specs.Token.{token_got}
use Rattle.jobs.specs.declared.job.Ended.{Ended}
use Rattle.access.specs.Frame.{bits_of, command_bits, acquire_times_by, acquire_ask_by, acquire_got_by, release_by, release_rest_by}
use Rattle.access.specs.Body.{held_talk, list_from, list_got, resume_body}
use Rattle.access.specs.declared.frame.Frame.{Frame}
use Rattle.access.specs.declared.place.HoldFor.{HoldFor}
use Rattle.access.specs.declared.place.HoldFor.TheVariants as hold
use Rattle.access.specs.declared.place.BitsPlace.{BitsPlace}
use Rattle.access.specs.declared.place.BitsPlace.TheVariants as bits
use Rattle.access.specs.declared.place.TokenPlace.{TokenPlace}
use Rattle.access.specs.declared.place.TokenPlace.TheVariants as token
use Rattle.access.specs.declared.place.CommandFor.{CommandFor}
use Rattle.access.specs.declared.place.CommandFor.TheVariants as whose
use Rattle.access.specs.declared.place.CommandPlace.{CommandPlace}
use Rattle.access.specs.declared.place.CommandPlace.TheVariants as command
use Rattle.access.specs.declared.place.SyncFor.{SyncFor}
use Rattle.access.specs.declared.place.SyncFor.TheVariants as why
use Rattle.access.specs.declared.place.AccessPlace.{AccessPlace}
use Rattle.access.specs.declared.place.AccessPlace.TheVariants as place
use Rattle.access.specs.declared.place.Under.{Under}
use Rattle.access.specs.declared.place.Access.{Access}

-- a list's words come with each: `ws`

-- what follows acquire, by what it is for; with a body's result there is none to follow
abbrev pub opened : Frame → HoldFor → List ℕ → Call (Unit {0}) → Talk (Res ℕ × List ℕ)
opened f hold.Alone ws t = no_word t
opened f (hold.Acquiring h) ws t = keep (and_then t (held_taken plain (release_by f) (held_talk h))) []
opened f (hold.Listing phy i n) ws t = and_then t (held_taken with_values (release_by f) (list_from phy i n ws))
opened f (hold.Releasing result n) ws t = no_word t

unfoldable pub opening : Under → List ℕ → Call (Unit {0}) → Talk (Res ℕ × List ℕ)
opening u ws t = opened u.frame u.hold ws t

-- what follows release: of what the body gave, with the first n values
abbrev pub closed : HoldFor → List ℕ → Call (Unit {0}) → Talk (Res ℕ × List ℕ)
closed hold.Alone ws t = no_word t
closed (hold.Acquiring h) ws t = no_word t
closed (hold.Listing phy i n) ws t = no_word t
closed (hold.Releasing result n) ws t = and_then t (held_given with_values (result, take n ws))

unfoldable pub closing : Under → List ℕ → Call (Unit {0}) → Talk (Res ℕ × List ℕ)
closing u ws t = closed u.hold ws t

-- a list goes on from what the body gave
abbrev pub body_got : HoldFor → List ℕ → Res ℕ → Talk (Res ℕ × List ℕ)
body_got hold.Alone ws got = end (got, [])
body_got (hold.Acquiring h) ws got = end (got, [])
body_got (hold.Listing phy i n) ws got = list_got phy i n ws got
body_got (hold.Releasing result n) ws got = end (got, [])

-- what follows the last body
abbrev pub bodies_then : Frame → Talk (Res ℕ × List ℕ) → Talk (Res ℕ × List ℕ)
bodies_then f t = and_then t (held_done with_values (release_by f))

-- what follows the body
abbrev pub body_then : Under → List ℕ → Call ℕ → Talk (Res ℕ × List ℕ)
body_then u ws t = bodies_then u.frame (and_then t (body_got u.hold ws))

-- what follows acquire_bits or release_bits of the mask
abbrev pub bits_then : Under → List ℕ → BitsPlace → Call (Unit {0}) → Talk (Res ℕ × List ℕ)
bits_then u ws bits.Plain t = opening u ws t
bits_then u ws (bits.Taking n) t = opening u ws (t >> acquire_ask_by u.frame (acquire_times_by u.frame n))
bits_then u ws (bits.Freeing n granted) t = opening u ws (t >> acquire_lost granted (acquire_times_by u.frame n))
bits_then u ws (bits.Giving given) t = closing u ws (t >> end given)

abbrev pub takes : TokenPlace → Bool
takes (token.Taking n) = true
takes token.Giving = false

-- what follows the token's command
abbrev pub token_then : Under → List ℕ → TokenPlace → Call Bool → Talk (Res ℕ × List ℕ)
token_then u ws (token.Taking n) t = opening u ws (attempt t >>= acquire_got_by u.frame (acquire_times_by u.frame n))
token_then u ws token.Giving t = closing u ws (attempt t >>= λ given. release_rest_by u.frame (forget given))

-- how many words of the block are a command's, the first ones
abbrev pub words_of : CommandFor → ℕ
words_of (whose.Job words) = words
words_of (whose.Token place) = 2

-- and which it leaves to a list
abbrev pub rest_of : CommandFor → List ℕ → List ℕ
rest_of (whose.Job words) b = []
rest_of (whose.Token place) b = list_of b

-- what follows a command
abbrev pub command_then : Under → List ℕ → CommandFor → Talk (Res ℕ × List ℕ) → Talk (Res ℕ × List ℕ)
command_then u ws (whose.Job words) t = t
command_then u ws (whose.Token place) t = token_then u ws place (and_then t (λ p. token_got (takes place) p.0))

-- what follows its acquire_bits or release_bits
abbrev pub command_synced : Frame → CommandPlace → Call (Unit {0}) → Blk ℕ
command_synced f command.Acquiring t b = and_then t (held_taken (with_block b) (give_bits (command_bits f)) (exchange b))
command_synced f (command.Releasing result) t b = and_then t (held_given (with_block b) (result, b))

-- its exchange, which leaves the list's words as they are
abbrev pub beside : List ℕ → Talk (Res ℕ × List ℕ) → Talk ((Res ℕ × List ℕ) × List ℕ)
beside ws t = and_then t (λ p. end (p, ws))

-- what follows its exchange
abbrev pub exchange_then : Under → CommandFor → Talk ((Res ℕ × List ℕ) × List ℕ) → Talk (Res ℕ × List ℕ)
exchange_then u c t =
    and_then t (λ q. command_then u q.1 c (command_synced u.frame (command.Releasing q.0.0) (give_bits (command_bits u.frame)) q.0.1))

abbrev pub sync_call : Under → SyncFor → SyncCall
sync_call u (why.Bits p) = bits_of u.frame
sync_call u (why.Command c p) = command_bits u.frame

abbrev pub sync_then : Under → SyncFor → List ℕ → Call (Unit {0}) → Talk (Res ℕ × List ℕ)
sync_then u (why.Bits p) b t = bits_then u (list_of b) p t
sync_then u (why.Command c p) b t = command_then u (rest_of c b) c (command_synced u.frame p t (take (words_of c) b))

abbrev pub resume_command : CommandFor → Exchange → List ℕ → Reply → Talk ((Res ℕ × List ℕ) × List ℕ)
resume_command c s b r = beside (rest_of c b) (resume_exchange s (take (words_of c) b) r)

abbrev pub resume_place : Under → AccessPlace → List ℕ → Reply → Talk (Res ℕ × List ℕ)
resume_place u place.Reading b r = end (checked r, [])
resume_place u place.Writing b r = end (zero_of (done r), [])
resume_place u place.Waiting b r = end (Ok 0, [])
resume_place u (place.Sync w s) b r = sync_then u w b (resume_sync (sync_call u w) s r)
resume_place u (place.Exchange c s) b r = exchange_then u c (resume_command c s b r)
resume_place u (place.Body s) b r = body_then u (list_of b) (resume_body s b r)
resume_place u (place.Pausing n) b r = opening u (list_of b) (acquire_times_by u.frame n)

abbrev pub resume_access : Access → List ℕ → Reply → Talk (Res ℕ × List ℕ)
resume_access a b r = resume_place a.under a.place b r

abbrev pub told_access : List ℕ → Step Action Access (Ended ℕ) → Talk (Res ℕ × List ℕ)
told_access b = told_by (λ (g : Ended ℕ). (g.answer, take g.words b)) (λ s r. resume_access s b r)
