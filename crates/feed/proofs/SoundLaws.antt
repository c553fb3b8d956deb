-- A step from a sound state gives a sound one, and counts its bytes.
use Prim.Native.Nat.{ℕ, zero, suc, ◌+◌, ◌*◌, ◌-◌, ◌^◌, ◌≤◌, ◌<◌}
use mathlib.Core.Path.{◌≡◌, refl, sym, ap, ◌∙◌}
use mathlib.Core.Bool.{Bool, true, false, cond}
use native.Mathlib.Omega.{arith}
use native.Mathlib.Nat.{add-zero, pow-succ'}
use native.Mathlib.Numerals.{add-one}
use native.Mathlib.Decide.{dec_lt}
use borrow.Author.Tests.{le-leb, lt-ltb, le-ltb, leb-true, eqb-true, eqb-false}
use lib.Dec.{leb, ltb, eqb}
use Rattle.xdr.specs.Pad.{padded}
use Rattle.record.specs.Limits.{flags_bound, blocks_limit, hash_length}
use Rattle.record.specs.Block.{is_size}
use Rattle.record.specs.File.{is_deleted}
use Rattle.message.specs.Limits.{files_limit, options_limit}
use Rattle.message.specs.Header.{version_of, type_of, reserved_of, is_type}
use Rattle.message.specs.Message.{Kind, is_index, is_request, is_response, is_ping, is_pong, is_index_update, is_options, kind_of}
use Rattle.message.specs.declared.edition.Edition.{Edition}
use Rattle.message.specs.declared.edition.Edition.TheVariants as E
use Rattle.feed.specs.Rest.{rule_of, limit_of, passes, fills, leads, fresh, scan_after, options_goal, behind_string, gathered, at_goal, starting, stopped}
use Rattle.feed.specs.Sound.{most_word, most_string, most_gap, most, Bounded, Inside, Fits, Sound, reached}
use Rattle.feed.specs.Steps.Next.{files_goal, blocks_goal, behind_gap, body_goal, after_word, after_string, settled, after_length, bad_after, inside_after, gap_after, goal_after, stepped, wants}
use Rattle.feed.specs.Steps.Moves.{ReachedAt, Comes}
use Rattle.feed.specs.declared.state.Cursor.{Cursor}
use Rattle.feed.specs.declared.state.Scan.{Scan}
use Rattle.feed.specs.declared.state.Goal.{Goal}
use Rattle.feed.specs.declared.state.Goal.TheVariants as G
use Rattle.feed.specs.declared.state.WordField.{WordField}
use Rattle.feed.specs.declared.state.WordField.TheVariants as F
use Rattle.feed.specs.declared.state.StringField.{StringField}
use Rattle.feed.specs.declared.state.StringField.TheVariants as L
use Rattle.feed.specs.declared.state.Gap.{Gap}
use Rattle.feed.specs.declared.state.Gap.TheVariants as P

-- bytes that are passed over are some, and no refusal has a number below 2
abbrev pub Starts : Goal → Type 0
Starts (G.Word f) = Unit {0}
Starts (G.String l) = Unit {0}
Starts (G.Skip n a) = 1 ≤ n
Starts G.Ended = Unit {0}
Starts (G.Stopped n) = 2 ≤ n

fits_goal : (g : Goal) (p : ℕ) → Starts g → Fits g (at_goal g p)
fits_goal (G.Word f) p h = (omega arith, omega arith)
fits_goal (G.String l) p h = (λ e. omega arith, λ e. absurd (omega arith))
fits_goal (G.Skip n a) p h = (refl, h)
fits_goal G.Ended p h = refl
fits_goal (G.Stopped n) p h = (refl, h)

reached_goal : (g : Goal) (p n : ℕ) → p ≡ n → ReachedAt g (at_goal g p) n
unfolding reached
reached_goal (G.Word f) p n e = add-zero p ∙ e
reached_goal (G.String l) p n e = add-zero p ∙ e
reached_goal (G.Skip k a) p n e = add-zero p ∙ e
reached_goal G.Ended p n e = add-zero p ∙ e
reached_goal (G.Stopped k) p n e = tt

bounded_goal : (g : Goal) (p : ℕ) → p + most g ≤ 22000000 → Bounded g p
bounded_goal (G.Word f) p h = h
bounded_goal (G.String l) p h = h
bounded_goal (G.Skip n a) p h = h
bounded_goal G.Ended p h = tt
bounded_goal (G.Stopped n) p h = tt

pub come_goal : (g : Goal) (p n : ℕ) → Starts g → p + most g ≤ 22000000 → p ≡ n → Comes (at_goal g p) n
come_goal g p n h b e = record { sound = record { bounded = bounded_goal g p b; fits = fits_goal g p h }; arrived = reached_goal g p n e }

pub come_stopped : (k p n : ℕ) → 2 ≤ k → Comes (stopped k p) n
come_stopped k p n h = record { sound = record { bounded = tt; fits = (refl, h) }; arrived = tt }

pub come_ended : (p : ℕ) → Comes (at_goal G.Ended p) p
come_ended p = record { sound = record { bounded = tt; fits = refl }; arrived = reached_goal G.Ended p p refl }

come_cond : (b : Bool) (x y : Cursor) (n : ℕ) → (b ≡ true → Comes x n) → Comes y n → Comes (cond b x y) n
come_cond true x y n h k = h refl
come_cond false x y n h k = k

pub starts_files : (n : ℕ) → Starts (files_goal n)
starts_files zero = tt
starts_files (suc n) = tt

pub most_files : (n : ℕ) → most (files_goal n) ≤ n * 42000
most_files zero = omega arith
most_files (suc n) = omega arith

pub starts_blocks : (m n : ℕ) → Starts (blocks_goal m n)
starts_blocks zero n = starts_files n
starts_blocks (suc m) n = tt

pub most_blocks : (m n : ℕ) → most (blocks_goal m n) ≤ m * 40 + n * 42000
most_blocks zero n = omega (arith, most_files n)
most_blocks (suc m) n = omega arith

pub starts_options : (n : ℕ) → Starts (options_goal n)
starts_options zero = tt
starts_options (suc n) = tt

pub most_options : (n : ℕ) → most (options_goal n) ≤ n * 400
most_options zero = omega arith
most_options (suc n) = omega arith

starts_body : (e : Edition) (k : Kind) → Starts (body_goal e k)
starts_body E.Old is_index = tt
starts_body E.New is_index = tt
starts_body E.Old is_request = tt
starts_body E.New is_request = tt
starts_body e is_response = tt
starts_body e is_ping = tt
starts_body e is_pong = tt
starts_body E.Old is_index_update = tt
starts_body E.New is_index_update = tt
starts_body e is_options = tt

most_body : (e : Edition) (k : Kind) → most (body_goal e k) ≤ 21900000
most_body E.Old is_index = omega arith
most_body E.New is_index = omega arith
most_body E.Old is_request = omega arith
most_body E.New is_request = omega arith
most_body e is_response = omega arith
most_body e is_ping = omega arith
most_body e is_pong = omega arith
most_body E.Old is_index_update = omega arith
most_body E.New is_index_update = omega arith
most_body e is_options = omega arith

-- after a word
pub come_field : (f : WordField) (p w : ℕ) → p + most_word f ≤ 22000000 → Comes (after_word f p w) (p + 4)
unfolding after_word
come_field (F.Start e) p h b =
    come_cond (eqb (version_of h) 0) _ (stopped 2 p) (p + 4)
    (λ x. come_cond (is_type e (type_of h)) _ (stopped 3 p) (p + 4)
    (λ x. come_cond (eqb (reserved_of h) 0) (at_goal (body_goal e (kind_of (type_of h))) (p + 4)) (stopped 4 p) (p + 4)
    (λ x. come_goal (body_goal e (kind_of (type_of h))) (p + 4) (p + 4) (starts_body e (kind_of (type_of h))) (omega (arith, most_body e (kind_of (type_of h)))) refl)
    (come_stopped 4 p (p + 4) (omega arith)))
    (come_stopped 3 p (p + 4) (omega arith)))
    (come_stopped 2 p (p + 4) (omega arith))
come_field F.FileCount p n b =
    come_cond (leb n files_limit) (at_goal (files_goal n) (p + 4)) (stopped 5 p) (p + 4)
    (λ e. come_goal (files_goal n) (p + 4) (p + 4) (starts_files n) (omega (arith, most_files n, leb-true n 512 e)) refl)
    (come_stopped 5 p (p + 4) (omega arith))
come_field (F.Flags k) p f b =
    come_cond (ltb f flags_bound) (at_goal (G.Skip 12 (P.Times (is_deleted f) k)) (p + 4)) (stopped 11 p) (p + 4)
    (λ e. come_goal (G.Skip 12 (P.Times (is_deleted f) k)) (p + 4) (p + 4) (omega arith) (omega arith) refl)
    (come_stopped 11 p (p + 4) (omega arith))
come_field (F.BlockCount d k) p n b =
    come_cond (leb n blocks_limit) _ (stopped 5 p) (p + 4)
    (λ e. come_cond (cond d (eqb n 0) true) (at_goal (blocks_goal n k) (p + 4)) (stopped 12 p) (p + 4)
    (λ f. come_goal (blocks_goal n k) (p + 4) (p + 4) (starts_blocks n k) (omega (arith, most_blocks n k, leb-true n 1024 e)) refl)
    (come_stopped 12 p (p + 4) (omega arith)))
    (come_stopped 5 p (p + 4) (omega arith))
come_field (F.Block m k) p n b =
    come_cond (is_size n) (at_goal (G.Word (F.HashLength m k)) (p + 4)) (stopped 10 p) (p + 4)
    (λ e. come_goal (G.Word (F.HashLength m k)) (p + 4) (p + 4) tt (omega arith) refl)
    (come_stopped 10 p (p + 4) (omega arith))
come_field (F.HashLength m k) p n b =
    come_cond (eqb n hash_length) (at_goal (G.Skip 32 (P.Hash m k)) (p + 4)) (stopped 9 p) (p + 4)
    (λ e. come_goal (G.Skip 32 (P.Hash m k)) (p + 4) (p + 4) (omega arith) (omega arith) refl)
    (come_stopped 9 p (p + 4) (omega arith))
come_field F.OptionCount p n b =
    come_cond (leb n options_limit) (at_goal (options_goal n) (p + 4)) (stopped 5 p) (p + 4)
    (λ e. come_goal (options_goal n) (p + 4) (p + 4) (starts_options n) (omega (arith, most_options n, leb-true n 64 e)) refl)
    (come_stopped 5 p (p + 4) (omega arith))

-- after a string
pub starts_string : (l : StringField) → Starts (behind_string l)
starts_string L.Index = tt
starts_string L.Request = tt
starts_string L.RequestName = omega arith
starts_string L.Data = tt
starts_string (L.File k) = tt
starts_string (L.Key k) = tt
starts_string (L.Value k) = starts_options k

pub most_string_lem : (l : StringField) (n : ℕ) → n ≤ limit_of l → 4 + padded n + most (behind_string l) ≤ most_string l
most_string_lem L.Index n h = omega arith
most_string_lem L.Request n h = omega arith
most_string_lem L.RequestName n h = omega arith
most_string_lem L.Data n h = omega arith
most_string_lem (L.File k) n h = omega arith
most_string_lem (L.Key k) n h = omega arith
most_string_lem (L.Value k) n h = omega (arith, most_options k)

-- a string that takes no more bytes than its length word, its limit and a pad
pub string_room : (l : StringField) (n : ℕ) → n ≤ limit_of l + 8 → n + most (behind_string l) ≤ most_string l
string_room L.Index n h = omega arith
string_room L.Request n h = omega arith
string_room L.RequestName n h = omega arith
string_room L.Data n h = omega arith
string_room (L.File k) n h = omega arith
string_room (L.Key k) n h = omega arith
string_room (L.Value k) n h = omega (arith, most_options k)

come_string : (l : StringField) (p n zeros : ℕ) (q : Scan) (m : ℕ) → n ≤ limit_of l → p + most_string l ≤ 22000000 → p + (4 + padded n) ≡ m → Comes (after_string l p n zeros q) m
unfolding after_string
come_string l p n zeros q m h b e =
    come_cond (eqb zeros (padded n - n)) _ (stopped 6 (p + (4 + (n + zeros)))) m
    (λ w. come_cond (passes (rule_of l) q) _ (stopped 7 (p + (4 + q.start))) m
    (λ x. come_cond (fills (rule_of l) n) _ (stopped 8 p) m
    (λ y. come_cond (leads (rule_of l) q) (at_goal (behind_string l) (p + (4 + padded n))) (stopped 24 p) m
    (λ z. come_goal (behind_string l) (p + (4 + padded n)) m (starts_string l) (omega (arith, most_string_lem l n h)) e)
    (come_stopped 24 p m (omega arith)))
    (come_stopped 8 p m (omega arith)))
    (come_stopped 7 (p + (4 + q.start)) m (omega arith)))
    (come_stopped 6 (p + (4 + (n + zeros))) m (omega arith))

pub come_settled : (l : StringField) (p n i c z : ℕ) (q : Scan) (zeros : ℕ) (bad : Bool) (m : ℕ)
    → n ≤ limit_of l → i + c ≡ n → c + z ≤ padded n → zeros + z ≤ 3 → p + most_string l ≤ 22000000 → p + (4 + padded n - (c + z)) ≡ m
    → Comes (settled l p n i c z q zeros bad) m
unfolding settled reached
come_settled l p n i c z q zeros bad m h e w u b r = go (eqb (c + z) 0) refl
  where
    go : (x : Bool) → eqb (c + z) 0 ≡ x
        → Comes (cond x (after_string l p n zeros q) (record { goal = G.String l; place = p; have = 4; value = n; at = i; todo = c; pad = z; scan = q; zeros = zeros; bad = bad })) m
    go true f =
        let none : c + z ≡ 0 = eqb-true (c + z) 0 f in
        come_string l p n zeros q m h b (omega arith)
    go false f =
        let some : 1 ≤ c + z = omega (arith, eqb-false (c + z) 0 f) in
        record {
          sound = record { bounded = b; fits = (λ x. absurd (omega arith), λ x. record { four = refl; limited = h; parts = e; within = w; missing = some; padding = u }) };
          arrived = r;
        }

-- after bytes that are passed over
starts_gap : (a : Gap) → Starts (behind_gap a)
starts_gap P.Offset = tt
starts_gap (P.Times d k) = tt
starts_gap (P.Hash m k) = starts_blocks m k

most_gap_lem : (a : Gap) → most (behind_gap a) ≤ most_gap a
most_gap_lem P.Offset = omega arith
most_gap_lem (P.Times d k) = omega arith
most_gap_lem (P.Hash m k) = most_blocks m k

pub come_gap : (n : ℕ) (a : Gap) (p k : ℕ) → k ≤ n → p + (n + most_gap a) ≤ 22000000 → Comes (gap_after n a p k) (p + k)
unfolding gap_after
come_gap n a p k h b = go (eqb n k) refl
  where
    go : (x : Bool) → eqb n k ≡ x → Comes (cond x (at_goal (behind_gap a) (p + k)) (at_goal (G.Skip (n - k) a) (p + k))) (p + k)
    go true q = come_goal (behind_gap a) (p + k) (p + k) (starts_gap a) (omega (arith, most_gap_lem a)) refl
    go false q = come_goal (G.Skip (n - k) a) (p + k) (p + k) (omega (arith, eqb-false n k q)) (omega arith) refl

-- after a length word
pub come_length : (l : StringField) (p n : ℕ) → p + most_string l ≤ 22000000 → Comes (after_length l p n) (p + 4)
unfolding after_length
come_length l p n b =
    come_cond (leb n (limit_of l)) (settled l p n 0 n (padded n - n) fresh 0 false) (stopped 5 p) (p + 4)
    (λ e. come_settled l p n 0 n (padded n - n) fresh 0 false (p + 4) (leb-true n (limit_of l) e) (omega arith) (omega arith) (omega arith) b (omega arith))
    (come_stopped 5 p (p + 4) (omega arith))

-- a byte of a string
pub reached_inside : (l : StringField) (st : Cursor) → Inside l st → reached st ≡ st.place + (4 + padded st.value - (st.todo + st.pad))
unfolding reached
reached_inside l st i = ap (λ (x : ℕ). cond (leb x 3) (st.place + x) (st.place + (4 + padded st.value - (st.todo + st.pad)))) i.four

zeros_more : (bad : Bool) (zeros pad : ℕ) → zeros + pad ≤ 3 → 1 ≤ pad → cond bad zeros (zeros + 1) + (pad - 1) ≤ 3
zeros_more true zeros pad h o = omega arith
zeros_more false zeros pad h o = omega arith

come_inside : (l : StringField) (st : Cursor) (b m : ℕ) → Inside l st → st.place + most_string l ≤ 22000000 → reached st + 1 ≡ m → Comes (inside_after l st b) m
unfolding inside_after
come_inside l st b m i h e = go (eqb st.todo 0) refl
  where
    all : st.place + (4 + padded st.value - (st.todo + st.pad)) + 1 ≡ m
    all = ap (λ (x : ℕ). x + 1) (sym (reached_inside l st i)) ∙ e

    go : (x : Bool) → eqb st.todo 0 ≡ x
        → Comes (cond x (settled l st.place st.value st.at 0 (st.pad - 1) st.scan (cond (bad_after st.bad b) st.zeros (st.zeros + 1)) (bad_after st.bad b))
        (settled l st.place st.value (st.at + 1) (st.todo - 1) st.pad
        (scan_after (rule_of l) st.scan st.at b) st.zeros st.bad)) m
    go true q =
        let none : st.todo ≡ 0 = eqb-true st.todo 0 q in
        let some : 1 ≤ st.todo + st.pad = i.missing in
        let parts : st.at + st.todo ≡ st.value = i.parts in
        let within : st.todo + st.pad ≤ padded st.value = i.within in
        come_settled l st.place st.value st.at 0 (st.pad - 1) st.scan (cond (bad_after st.bad b) st.zeros (st.zeros + 1)) (bad_after st.bad b) m
        i.limited (omega arith) (omega arith) (zeros_more (bad_after st.bad b) st.zeros st.pad i.padding (omega arith)) h (omega (arith, all))
    go false q =
        let some : 1 ≤ st.todo = omega (arith, eqb-false st.todo 0 q) in
        let parts : st.at + st.todo ≡ st.value = i.parts in
        let within : st.todo + st.pad ≤ padded st.value = i.within in
        come_settled l st.place st.value (st.at + 1) (st.todo - 1) st.pad
        (scan_after (rule_of l) st.scan st.at b) st.zeros st.bad m
        i.limited (omega arith) (omega arith) i.padding h (omega (arith, all))

-- a byte of a word
word_more : (c v b : ℕ) → v < 256 ^ c → b < 256 → v * 256 + b < 256 ^ (c + 1)
word_more c v b h k = rw (add-one c, pow-succ' 256 c) (omega arith)

pub reached_word : (st : Cursor) → st.have ≤ 3 → reached st ≡ st.place + st.have
unfolding reached
reached_word st h = simp (le-leb st.have 3 h)

gathered_word : (g : Goal) (p c v : ℕ) → c ≤ 3 → reached (gathered g p c v) ≡ p + c
gathered_word g p c v h = reached_word (gathered g p c v) h

come_step_goal : (g : Goal) (st : Cursor) (b : ℕ) → Fits g st → Bounded g st.place → b < 256 → wants g ≡ true → Comes (goal_after g st b) (reached st + 1)
come_step_goal (G.Word f) st b h s k e = go (dec_lt st.have 3)
  where
    go : Dec (st.have < 3) → Comes (goal_after (G.Word f) st b) (reached st + 1)
    go (yes y) =
        let here : reached st ≡ st.place + st.have = reached_word st h.0 in
        let next : reached (gathered (G.Word f) st.place (st.have + 1) (st.value * 256 + b)) ≡ st.place + (st.have + 1) =
        gathered_word (G.Word f) st.place (st.have + 1) (st.value * 256 + b) (omega arith) in
        rw (lt-ltb st.have 3 y)
        (record { sound = record { bounded = s; fits = (omega arith, word_more st.have st.value b h.1 k) }; arrived = omega arith })
    go (no n) =
        let three : st.have ≤ 3 = h.0 in
        let here : reached st ≡ st.place + st.have = reached_word st three in
        let next : reached st + 1 ≡ st.place + 4 = omega arith in
        rw (le-ltb st.have 3 (omega arith), next) (come_field f st.place (st.value * 256 + b) s)
come_step_goal (G.String l) st b h s k e = go (dec_lt st.have 3)
  where
    go : Dec (st.have < 3) → Comes (goal_after (G.String l) st b) (reached st + 1)
    go (yes y) =
        let here : reached st ≡ st.place + st.have = reached_word st (omega arith) in
        let next : reached (gathered (G.String l) st.place (st.have + 1) (st.value * 256 + b)) ≡ st.place + (st.have + 1) =
        gathered_word (G.String l) st.place (st.have + 1) (st.value * 256 + b) (omega arith) in
        rw (lt-ltb st.have 3 y)
        (record {
          sound = record { bounded = s; fits = (λ x. word_more st.have st.value b (h.0 (omega arith)) k, λ x. absurd (omega arith)) };
          arrived = omega arith;
        })
    go (no n) = rw (le-ltb st.have 3 (omega arith)) (go' (dec_lt st.have 4))
      where
        go' : Dec (st.have < 4) → Comes (cond (ltb st.have 4) (after_length l st.place (st.value * 256 + b)) (inside_after l st b)) (reached st + 1)
        go' (yes y) =
            let here : reached st ≡ st.place + st.have = reached_word st (omega arith) in
            let next : reached st + 1 ≡ st.place + 4 = omega arith in
            rw (lt-ltb st.have 4 y, next) (come_length l st.place (st.value * 256 + b) s)
        go' (no m) = rw (le-ltb st.have 4 (omega arith)) (come_inside l st b (reached st + 1) (h.1 (omega arith)) s refl)
come_step_goal (G.Skip n a) st b h s k e =
    let none : st.have ≡ 0 = h.0 in
    let here : reached st ≡ st.place + st.have = reached_word st (omega arith) in
    let next : reached st + 1 ≡ st.place + 1 = omega arith in
    rw next (come_gap n a st.place 1 h.1 s)
come_step_goal G.Ended st b h s k e = let z : ◌≡◌ {A = ℕ} 0 1 = cc in absurd (omega arith)
come_step_goal (G.Stopped n) st b h s k e = let z : ◌≡◌ {A = ℕ} 0 1 = cc in absurd (omega arith)

pub come_step : (st : Cursor) (b : ℕ) → Sound st → b < 256 → wants st.goal ≡ true → Comes (stepped st b) (reached st + 1)
unfolding stepped
come_step st b h k e = come_step_goal st.goal st b h.fits h.bounded k e

pub starting_sound : (e : Edition) → Comes (starting e) 0
starting_sound e = come_goal (G.Word (F.Start e)) 0 0 tt (omega arith) refl
