-- The steps from a state to the next: after a word, in a string, past bytes that are passed over.
use Rattle.std.specs.Prelude.{ℕ, zero, suc, ◌+◌, ◌*◌, ◌-◌, Bool, true, false, cond, not, leb, ltb, eqb, Ok, Err, Some, None}
use Rattle.xdr.specs.Pad.{padded}
use Rattle.record.specs.Limits.{flags_bound, blocks_limit, hash_length}
use Rattle.record.specs.Block.{is_size}
use Rattle.record.specs.File.{is_deleted}
use Rattle.message.specs.Limits.{files_limit, options_limit}
use Rattle.message.specs.Header.{version_of, type_of, reserved_of, is_type}
use Rattle.message.specs.Message.{Kind, is_index, is_request, is_response, is_ping, is_pong, is_index_update, is_options, kind_of}
use Rattle.message.specs.declared.edition.Edition.{Edition}
use Rattle.message.specs.declared.edition.Edition.TheVariants as E
use Rattle.feed.specs.Rest.{part_after, rule_of, limit_of, passes, fills, leads, fresh, scan_after, options_goal, behind_string, gathered, at_goal, stopped}
use Rattle.feed.specs.Answer.{Answer}
use Rattle.feed.specs.declared.state.Cursor.{Cursor}
use Rattle.feed.specs.declared.state.Scan.{Scan}
use Rattle.feed.specs.declared.state.Goal.{Goal}
use Rattle.feed.specs.declared.state.Goal.TheVariants as G
use Rattle.feed.specs.declared.state.WordField.{WordField}
use Rattle.feed.specs.declared.state.WordField.TheVariants as F
use Rattle.feed.specs.declared.state.StringField.{StringField}
use Rattle.feed.specs.declared.state.StringField.TheVariants as L
use Rattle.feed.specs.declared.state.Rule.{Rule}
use Rattle.feed.specs.declared.state.Rule.TheVariants as R
use Rattle.feed.specs.declared.state.Gap.{Gap}
use Rattle.feed.specs.declared.state.Gap.TheVariants as P

-- so many files to come
abbrev pub files_goal : ℕ → Goal
files_goal zero = G.Ended
files_goal (suc n) = G.String (L.File n)

-- so many blocks to come, and then so many files
abbrev pub blocks_goal : ℕ → ℕ → Goal
blocks_goal zero n = files_goal n
blocks_goal (suc m) n = G.Word (F.Block m n)

-- the goal after bytes that are passed over
abbrev pub behind_gap : Gap → Goal
behind_gap P.Offset = G.Word (F.Block 0 0)
behind_gap (P.Times d k) = G.Word (F.BlockCount d k)
behind_gap (P.Hash m k) = blocks_goal m k

-- the goal of an Index: in the old edition it begins with its files
abbrev pub index_goal : Edition → Goal
index_goal E.Old = G.Word F.FileCount
index_goal E.New = G.String L.Index

-- the goal of a Request: in the old edition it begins with its Name
abbrev pub request_goal : Edition → Goal
request_goal E.Old = G.String L.RequestName
request_goal E.New = G.String L.Request

-- the goal of a body, by its kind
abbrev pub body_goal : Edition → Kind → Goal
body_goal e is_index = index_goal e
body_goal e is_request = request_goal e
body_goal e is_response = G.String L.Data
body_goal e is_ping = G.Ended
body_goal e is_pong = G.Ended
body_goal e is_index_update = index_goal e
body_goal e is_options = G.Word F.OptionCount

-- the state after a word that is whole
unfoldable pub after_word : WordField → (place w : ℕ) → Cursor
after_word (F.Start e) p h =
    cond (eqb (version_of h) 0)
    (cond (is_type e (type_of h)) (cond (eqb (reserved_of h) 0) (at_goal (body_goal e (kind_of (type_of h))) (p + 4)) (stopped 4 p)) (stopped 3 p))
    (stopped 2 p)
after_word F.FileCount p n = cond (leb n files_limit) (at_goal (files_goal n) (p + 4)) (stopped 5 p)
after_word (F.Flags k) p f = cond (ltb f flags_bound) (at_goal (G.Skip 12 (P.Times (is_deleted f) k)) (p + 4)) (stopped 11 p)
after_word (F.BlockCount d k) p n =
    cond (leb n blocks_limit) (cond (cond d (eqb n 0) true) (at_goal (blocks_goal n k) (p + 4)) (stopped 12 p)) (stopped 5 p)
after_word (F.Block m k) p n = cond (is_size n) (at_goal (G.Word (F.HashLength m k)) (p + 4)) (stopped 10 p)
after_word (F.HashLength m k) p n = cond (eqb n hash_length) (at_goal (G.Skip 32 (P.Hash m k)) (p + 4)) (stopped 9 p)
after_word F.OptionCount p n = cond (leb n options_limit) (at_goal (options_goal n) (p + 4)) (stopped 5 p)

-- the state after a string of n bytes that is whole, by the zeros at the front of its pad and what its rule made of it
unfoldable pub after_string : StringField → (place n zeros : ℕ) → Scan → Cursor
after_string l p n zeros q =
    cond (eqb zeros (padded n - n))
    (cond (passes (rule_of l) q)
    (cond (fills (rule_of l) n) (cond (leads (rule_of l) q) (at_goal (behind_string l) (p + (4 + padded n))) (stopped 24 p)) (stopped 8 p))
    (stopped 7 (p + (4 + q.start))))
    (stopped 6 (p + (4 + (n + zeros))))

-- a string of which c bytes and z of its pad are still to come: where none are, it is whole
unfoldable pub settled : StringField → (place n i c z : ℕ) → Scan → (zeros : ℕ) → Bool → Cursor
settled l p n i c z q zeros bad =
    cond (eqb (c + z) 0) (after_string l p n zeros q)
    (record { goal = G.String l; place = p; have = 4; value = n; at = i; todo = c; pad = z; scan = q; zeros = zeros; bad = bad })

-- after a length word
unfoldable pub after_length : StringField → (place n : ℕ) → Cursor
after_length l p n = cond (leb n (limit_of l)) (settled l p n 0 n (padded n - n) fresh 0 false) (stopped 5 p)

-- whether a pad byte was not zero, after one more
abbrev pub bad_after : Bool → ℕ → Bool
bad_after bad b = cond bad true (not (eqb b 0))

-- after a byte of contents or pad
unfoldable pub inside_after : StringField → Cursor → ℕ → Cursor
inside_after l st b =
    cond (eqb st.todo 0)
    (settled l st.place st.value st.at 0 (st.pad - 1) st.scan (cond (bad_after st.bad b) st.zeros (st.zeros + 1)) (bad_after st.bad b))
    (settled l st.place st.value (st.at + 1) (st.todo - 1) st.pad (scan_after (rule_of l) st.scan st.at b) st.zeros st.bad)

-- after k bytes of n that are passed over
unfoldable pub gap_after : (n : ℕ) → Gap → (place k : ℕ) → Cursor
gap_after n a p k = cond (eqb n k) (at_goal (behind_gap a) (p + k)) (at_goal (G.Skip (n - k) a) (p + k))

-- after a byte, by the goal
abbrev pub goal_after : Goal → Cursor → ℕ → Cursor
goal_after (G.Word f) st b =
    cond (ltb st.have 3) (gathered (G.Word f) st.place (st.have + 1) (st.value * 256 + b)) (after_word f st.place (st.value * 256 + b))
goal_after (G.String l) st b =
    cond (ltb st.have 3) (gathered (G.String l) st.place (st.have + 1) (st.value * 256 + b))
    (cond (ltb st.have 4) (after_length l st.place (st.value * 256 + b)) (inside_after l st b))
goal_after (G.Skip n a) st b = gap_after n a st.place 1
goal_after G.Ended st b = st
goal_after (G.Stopped n) st b = st

-- the state after a byte
unfoldable pub stepped : Cursor → ℕ → Cursor
stepped st b = goal_after st.goal st b

-- more bytes are wanted
abbrev pub wants : Goal → Bool
wants (G.Word f) = true
wants (G.String l) = true
wants (G.Skip n a) = true
wants G.Ended = false
wants (G.Stopped n) = false

-- what a goal at a place says: it waits unless it is at its end
abbrev pub goal_says : Goal → ℕ → Answer
goal_says (G.Word f) p = Ok None
goal_says (G.String l) p = Ok None
goal_says (G.Skip n a) p = Ok None
goal_says G.Ended p = Ok (Some p)
goal_says (G.Stopped n) p = Err (record { number = n; place = p })

-- what a state says
abbrev pub says : Cursor → Answer
says st = goal_says st.goal st.place

-- a rule that asks for nothing
abbrev pub is_opaque : Rule → Bool
is_opaque R.Opaque = true
is_opaque R.Text = false
is_opaque R.Name = false

-- the part at hand after one more byte, where a rule asks for it
abbrev pub part_by : Rule → (part b : ℕ) → ℕ
part_by R.Opaque p b = p
part_by R.Text p b = p
part_by R.Name p b = part_after p b
