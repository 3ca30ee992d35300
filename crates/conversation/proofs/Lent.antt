-- Calls that are each lent the words as the call before left them are the reference's `command` of those words
use Rattle.hardware.specs.Talk.{Talk, Call, Res, Reply, ask, end, and_then, times, pick, read_raw}
use Rattle.std.proofs.Common.{◌≡◌, ℕ, zero, suc, ◌+◌, Bool, true, false, ltb, List, [], ◌∷◌, length, set, Ok, Err, refl, sym, ap, ◌∙◌, eq-eqb, eqb-true, ltb-false}
use lib.Seq.{set_out}
use Rattle.hardware.specs.declared.Action.{Action}
use Rattle.hardware.specs.declared.Error.TheVariants.{HostInterface, Io}
use Rattle.hardware.specs.declared.Failure.{Failure}
use Rattle.hardware.specs.declared.Stop.TheVariants.{Done}
use Rattle.hardware.specs.Block.{keep}
use Rattle.hardware.specs.Block as blk
use Rattle.hardware.specs.declared.Port.{Port}
use Rattle.words.specs.Hostif.{flex_mng, fits, reply_words}
use Rattle.reference.specs.Sync.{held_done, held_taken, with_block}
use Rattle.reference.specs.Hostif.{command, post, exchange, received, rest, reply_length, reply_status}
use Rattle.sync.specs.Sync.{give_bits, resume_sync}
use Rattle.hostif.specs.Post.{resume_post}
use Rattle.hostif.specs.Exchange.{exchange_after_post, exchange_rest, resume_exchange}
use Rattle.hostif.specs.declared.exchange.Exchange.{Exchange}
use Rattle.hostif.specs.declared.exchange.Exchange.TheVariants as exchangev
use Rattle.access.specs.Frame.{command_bits}
use Rattle.access.specs.Access.{command_synced}
use Rattle.access.specs.declared.frame.Frame.{Frame}
use Rattle.access.specs.declared.place.CommandPlace.{CommandPlace}
use Rattle.access.specs.declared.place.CommandPlace.TheVariants as holding
use Rattle.long.specs.Command.{exchange_ended, resume_at, resume_long}
use Rattle.long.specs.declared.command.Long.{Long}
use Rattle.long.specs.declared.command.LongPlace.{LongPlace}
use Rattle.long.specs.declared.command.LongPlace.TheVariants as place
use Rattle.started.specs.Standing.{told_lent, told_standing, lent_of}
use Rattle.started.specs.declared.standing.Standing.{Standing}
use Rattle.started.specs.declared.standing.Standing.TheVariants as standing
use Rattle.drive.specs.Act.{reply_for}
use Rattle.calls.specs.Conversation.{Conv, Step, gone, refuses, step_talk, step_lent, begun, to_lend}
use Rattle.calls.proofs.Laws.{step_done}
use Rattle.calls.specs.Run.{left, run_all, run_lent}
use Rattle.calls.specs.Session.{HostCall, after_calls}
use Rattle.operations.specs.Operations.{operation}
use Rattle.operations.specs.declared.Operation.{Operation}
use Rattle.operations.specs.declared.Operation.TheVariants.{Command}
use Rattle.conversation.specs.Conversation.{conv_of, is_lent}
use Rattle.conversation.specs.Lent.{block_now, replaced_word, replaced_in, replaced_at, replaced, StepLent, Lends}
use Rattle.conversation.specs.Lent.Lends.{none, stepped, ran}
use Rattle.conversation.specs.declared.conversation.Conversation as code
use Rattle.conversation.specs.declared.conversation.Stepped.{Stepped}
use Rattle.conversation.proofs.Laws.{told_answers}

-- ---- the block as it stands

-- where each end of the part before leads to the same block
now_then : {A B : Type 0} (b : List ℕ) (t : Talk A) (k : A → Talk (B × List ℕ)) → ((a : A) → block_now (k a) ≡ b) → block_now (and_then t k) ≡ b
now_then b (end a) k h = h a
now_then b (ask a c) k h = now_then b (c (Err (record { 0 = 0 }))) k h

-- where each end leaves the block that stands then as it is
now_kept : {A B : Type 0} (t : Talk (A × List ℕ)) (k : A × List ℕ → Talk (B × List ℕ)) → ((a : A) (b : List ℕ) → block_now (k (a, b)) ≡ b)
    → block_now (and_then t k) ≡ block_now t
now_kept (end (a, b)) k h = h a b
now_kept (ask a c) k h = now_kept (c (Err (record { 0 = 0 }))) k h

-- an exchange's end, and the release behind it
now_released : (f : Frame) (status : Res ℕ) (b : List ℕ) → block_now (command_synced f (holding.Releasing status) (give_bits (command_bits f)) b) ≡ b
now_released f status b = now_then b (give_bits (command_bits f)) _ (λ r. refl)

now_ended : (f : Frame) (t : Talk (Res ℕ × List ℕ)) → block_now (exchange_ended f t) ≡ block_now t
now_ended f t = now_kept t _ (now_released f)

-- the part of an exchange before its reply
now_head : (b : List ℕ) (last : Res ℕ) → block_now (blk.or_stop (λ last. blk.◌>>=◌ (keep (read_raw 0x15800)) (received last)) last b) ≡ b
now_head b (Ok last) = refl
now_head b (Err e) = refl

now_post : (b : List ℕ) (t : Call ℕ) → block_now (exchange_after_post t b) ≡ b
now_post b (end last) = now_head b last
now_post b (ask a k) = now_post b (k (Err (record { 0 = 0 })))

now_rest : (status n i : ℕ) (b : List ℕ) → block_now (rest n status i b) ≡ b
unfolding times
now_rest status zero i b = refl
now_rest status (suc n) i b = go (ltb i (length b))
  where
    go : (x : Bool) → block_now (pick x (blk.◌>>=◌ (keep (read_raw (flex_mng i))) (λ v b. rest n status (i + 1) (set b i v)) b) (blk.return status b)) ≡ b
    go true = refl
    go false = refl

now_received : (last head : ℕ) (b : List ℕ) → block_now (received last head b) ≡ pick (fits (reply_length head) (length b)) (set b 0 head) b
unfolding received
now_received last head b = go (fits (reply_length head) (length b))
  where
    go : (x : Bool) → block_now (pick x (rest (reply_words (reply_length head)) (reply_status head) 1 (set b 0 head)) (blk.fail (HostInterface last) b)) ≡ pick x (set b 0 head) b
    go true = now_rest (reply_status head) (reply_words (reply_length head)) 1 (set b 0 head)
    go false = refl

now_word : (status i n : ℕ) (b : List ℕ) (word : Res ℕ) → block_now (exchange_rest status i n word b) ≡ replaced_word i word b
now_word status i n b word = go (ltb i (length b)) refl word
  where
    go : (x : Bool) → ltb i (length b) ≡ x → (word : Res ℕ)
        → block_now (pick x (blk.◌>>=◌ (keep (end word)) (λ v b. rest n status (i + 1) (set b i v)) b) (blk.return status b)) ≡ replaced_word i word b
    go true e (Ok v) = now_rest status n (i + 1) (set b i v)
    go true e (Err x) = refl
    go false e (Ok v) = sym (set_out b i v (ltb-false _ _ e))
    go false e (Err x) = refl

now_exchange : (s : Exchange) (b : List ℕ) (r : Reply) → block_now (resume_exchange s b r) ≡ replaced_in s r b
now_exchange (exchangev.Post s) b r = now_post b (resume_post s b r)
now_exchange (exchangev.Head last) b (Ok head) = now_received last head b
now_exchange (exchangev.Head last) b (Err code) = refl
now_exchange (exchangev.Rest status i n) b (Ok v) = now_word status i n b (Ok v)
now_exchange (exchangev.Rest status i n) b (Err code) = now_word status i n b (Err (Io code.0))

now_synced : (f : Frame) (p : CommandPlace) (b : List ℕ) (t : Call (Unit {0})) → block_now (command_synced f p t b) ≡ b
now_synced f holding.Acquiring b t = now_then b t _ go
  where
    go : (r : Res (Unit {0})) → block_now (held_taken (with_block b) (give_bits (command_bits f)) (exchange b) r) ≡ b
    go (Err e) = refl
    go (Ok u) = now_kept (exchange b) (held_done (with_block b) (give_bits (command_bits f))) (λ a b'. now_then b' (give_bits (command_bits f)) _ (λ r. refl)) ∙ now_post b (post b)
now_synced f (holding.Releasing status) b t = now_then b t _ (λ r. refl)

now_at : (f : Frame) (p : LongPlace) (ws : List ℕ) (r : Reply) → block_now (resume_at f p ws r) ≡ replaced_at p r ws
now_at f (place.Sync p s) ws r = now_synced f p ws (resume_sync (command_bits f) s r)
now_at f (place.Exchange s) ws r = now_ended f (resume_exchange s ws r) ∙ now_exchange s ws r

now_long : (l : Long) (ws : List ℕ) (r : Reply) → block_now (resume_long l ws r) ≡ replaced l r ws
now_long l ws r = now_at l.frame l.place ws r

now_told : (n : ℕ) (t : Talk (Res ℕ × List ℕ)) → block_now (told_lent n t) ≡ block_now t
now_told n t = now_kept t _ (λ a b. refl)

not_replaced : (p : LongPlace) (ws : List ℕ) (code : Failure) → replaced_at p (Err code) ws ≡ ws
not_replaced (place.Sync p s) ws code = refl
not_replaced (place.Exchange (exchangev.Post s)) ws code = refl
not_replaced (place.Exchange (exchangev.Head last)) ws code = refl
not_replaced (place.Exchange (exchangev.Rest status i n)) ws code = refl

-- the words that are lent are the block as it stands
said_at : (port : Port) (p : Standing) (b ws : List ℕ) → (lent_of p ≡ 0 → ⊥) → block_now (told_standing port p b ws) ≡ ws
said_at port (standing.Kept step) b ws h = absurd (h refl)
said_at port (standing.Lent n a l) b ws h = now_told n (resume_long l ws _) ∙ now_long l ws _ ∙ not_replaced l.place ws _
said_at port (standing.LentDone n status) b ws h = refl

pub words_said : (c : code.Conversation) (ws : List ℕ) → (lent_of c.place ≡ 0 → ⊥) → block_now (conv_of c ws).talk ≡ ws
words_said c ws h = said_at c.port c.place c.block ws h

-- so where two say the same, they are lent the same: a call that leaves the conversation leaves the words
pub same_words : (c c' : code.Conversation) (ws ws' : List ℕ) → (lent_of c.place ≡ 0 → ⊥) → lent_of c'.place ≡ lent_of c.place
    → (conv_of c' ws').talk ≡ (conv_of c ws).talk → ws' ≡ ws
same_words c c' ws ws' h same e = sym (words_said c' ws' (λ z. h (sym same ∙ z))) ∙ ap block_now e ∙ words_said c ws h

-- ---- one step: it replaces the reply word that is due, and no other

pub step_replaces : {c : code.Conversation} {ws : List ℕ} {kind value : ℕ} {s : Stepped} {ws' : List ℕ} (n : ℕ) (a : Action) (l : Long)
    → c.place ≡ standing.Lent n a l → (n ≡ 0 → ⊥) → is_lent c ws ≡ true → refuses a kind ≡ false → StepLent c ws kind value s ws'
    → ws' ≡ replaced l (reply_for a (kind ∷ value ∷ [])) ws
step_replaces {c} {ws} {kind} {value} {s} {ws'} n a l at some lent good p =
    let r : Reply = reply_for a (kind ∷ value ∷ []) in
    let here : (conv_of c ws).talk ≡ ask a (λ r. told_lent n (resume_long l ws r)) = ap (λ (x : Standing). told_standing c.port x c.block ws) at in
    let went : step_talk (conv_of c ws) kind value ≡ record { stop = Done; to = gone (conv_of c ws) a (told_lent n (resume_long l ws r)) } =
    sym (step_done (conv_of c ws) kind value here good refl refl) in
    let talk : (conv_of s.to ws').talk ≡ told_lent n (resume_long l ws r) =
    ap (λ (x : Step). x.to.talk) (p.stepped ∙ ap (λ (b : Bool). step_lent b (conv_of c ws) kind value) lent ∙ went) in
    let many : lent_of s.to.place ≡ n = p.lends ∙ ap lent_of at in
    sym (words_said s.to ws' (λ z. some (sym many ∙ z))) ∙ ap block_now talk ∙ now_told n (resume_long l ws r) ∙ now_long l ws r

-- ---- calls in order

-- as many words are lent to the next
still_lent : (c c' : code.Conversation) (ws ws' : List ℕ) → is_lent c ws ≡ true → lent_of c'.place ≡ lent_of c.place → length ws' ≡ length ws → is_lent c' ws' ≡ true
still_lent c c' ws ws' h e m = eq-eqb _ _ (m ∙ eqb-true _ _ h ∙ sym e)

pub record Followed (c : code.Conversation) (ws : List ℕ) (calls : List HostCall) (to : code.Conversation) (last : List ℕ) : Type 0 where
  pub says : conv_of to last ≡ after_calls (conv_of c ws) calls
  pub lends : lent_of to.place ≡ lent_of c.place

pub lent_calls : {c to : code.Conversation} {ws last : List ℕ} {calls : List HostCall} → is_lent c ws ≡ true → Lends c ws calls to last → Followed c ws calls to last
lent_calls h none = record { says = refl; lends = refl }
lent_calls {c} {ws = ws} h (stepped {kind = kind} {value = value} {s = s} {ws' = ws'} {rest = rest} p more) =
    let f = lent_calls (still_lent c s.to ws ws' h p.lends p.many) more in
    let one : conv_of s.to ws' ≡ (step_talk (conv_of c ws) kind value).to =
    ap (λ (x : Step). x.to) (p.stepped ∙ ap (λ (b : Bool). step_lent b (conv_of c ws) kind value) h) in
    record { says = f.says ∙ ap (λ (x : Conv). after_calls x rest) one; lends = f.lends ∙ p.lends }
lent_calls {c} {ws = ws} h (ran {rs = rs} {t = t} {ws' = ws'} {t' = t'} {at = at} {r = r} {rest = rest} p more) =
    let f = lent_calls (still_lent c r.to ws ws' h p.lends p.many) more in
    let one : conv_of r.to ws' ≡ left (run_all (conv_of c ws) rs t at) =
    ap left (p.shown ∙ ap (λ (b : Bool). run_lent b (conv_of c ws) rs t at) h) in
    record { says = f.says ∙ ap (λ (x : Conv). after_calls x rest) one; lends = f.lends ∙ p.lends }

-- from a `begin`: the conversation says what the reference's operation says after those calls, and the words are its block as it stands
module _ (port : Port) (what : Operation) (ws : List ℕ) {c to : code.Conversation} {last : List ℕ} {calls : List HostCall}
    (begins : conv_of c ws ≡ begun port what ws) (lends : lent_of c.place ≡ to_lend port what ws) (many : length ws ≡ to_lend port what ws)
    (goes : Lends c ws calls to last) where
  followed : Followed c ws calls to last
  followed = lent_calls (eq-eqb _ _ (many ∙ sym lends)) goes

  pub lent_says : conv_of to last ≡ after_calls (begun port what ws) calls
  lent_says = followed.says ∙ ap (λ (x : Conv). after_calls x calls) begins

  pub lent_block : (to_lend port what ws ≡ 0 → ⊥) → last ≡ block_now (after_calls (begun port what ws) calls).talk
  lent_block some = sym (words_said to last (λ z. some (sym (followed.lends ∙ lends) ∙ z))) ∙ ap (λ (x : Conv). block_now x.talk) lent_says

-- of any number of words: a command that remembers none says what one says that keeps them
pub lent_as_kept : (port : Port) (ws : List ℕ) → told_lent (length ws) (command port ws) ≡ operation port Command ws
lent_as_kept port ws = told_answers port ws refl
