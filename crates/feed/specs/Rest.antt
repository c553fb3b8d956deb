-- What a state stands for: what the bytes still to come make of the message.
use Rattle.std.specs.Prelude.{ℕ, zero, suc, ◌+◌, ◌-◌, ◌/◌, ◌%◌, List, [], ◌∷◌, ◌++◌, Bool, true, false, cond, length, take, drop, leb, eqb, Ok, Err, Some, None}
use Rattle.xdr.specs.Pad.{padded, zeros_up_to}
use Rattle.xdr.specs.Text.{followers, lowest, highest, is_within}
use Rattle.xdr.specs.Fields.{text}
use Rattle.record.specs.Limits.{name_limit, key_limit, value_limit}
use Rattle.record.specs.Block.{hash, block, blocks}
use Rattle.record.specs.File.{after_name, file, files}
use Rattle.record.specs.KeyValue.{key_value, options}
use Rattle.message.specs.Limits.{repository_limit, files_limit, data_limit, options_limit}
use Rattle.message.specs.Message.{index, piece, request, response, message}
use Rattle.message.specs.declared.edition.Edition.{Edition}
use Rattle.message.specs.declared.edition.Edition.TheVariants as E
use Rattle.feed.specs.AtOnce.{stop}
use Rattle.feed.specs.Onward.{Rest, ending, then_read, many_read, skipping}
use Rattle.feed.specs.Answer.{Answer}
use Rattle.feed.specs.declared.state.Cursor.{Cursor}
use Rattle.feed.specs.declared.state.Scan.{Scan}
use Rattle.feed.specs.declared.state.Goal.{Goal}
use Rattle.feed.specs.declared.state.Goal.TheVariants as G
use Rattle.feed.specs.declared.state.WordField.{WordField}
use Rattle.feed.specs.declared.state.WordField.TheVariants as F
use Rattle.feed.specs.declared.state.StringField.{StringField}
use Rattle.feed.specs.declared.state.StringField.TheVariants as L
use Rattle.feed.specs.declared.state.Rule.{Rule}
use Rattle.feed.specs.declared.state.Rule.TheVariants as R
use Rattle.feed.specs.declared.state.Gap.{Gap}
use Rattle.feed.specs.declared.state.Gap.TheVariants as P

-- so many files to the end
abbrev pub files_left : ℕ → Rest
files_left n = many_read n file ending

-- so many blocks, and then so many files
abbrev pub blocks_left : ℕ → ℕ → Rest
blocks_left m n = many_read m block (files_left n)

-- so many options to the end
abbrev pub options_left : ℕ → Rest
options_left n = many_read n key_value ending

-- what is still to be read at a word, where none of its bytes has come
unfoldable pub rest_of_word : WordField → ℕ → List ℕ → Answer
rest_of_word (F.Start e) at s = then_read (message e) ending at s
rest_of_word F.FileCount at s = then_read (files files_limit) ending at s
rest_of_word (F.Flags k) at s = then_read after_name (files_left k) at s
rest_of_word (F.BlockCount d k) at s = then_read (blocks d) (files_left k) at s
rest_of_word (F.Block m k) at s = blocks_left (suc m) k at s
rest_of_word (F.HashLength m k) at s = then_read hash (blocks_left m k) at s
rest_of_word F.OptionCount at s = then_read (options options_limit) ending at s

-- at a string or an opaque, likewise
unfoldable pub rest_of_string : StringField → ℕ → List ℕ → Answer
rest_of_string L.Index at s = then_read (index E.New) ending at s
rest_of_string L.Request at s = then_read (request E.New) ending at s
rest_of_string L.RequestName at s = then_read piece ending at s
rest_of_string L.Data at s = then_read response ending at s
rest_of_string (L.File k) at s = files_left (suc k) at s
rest_of_string (L.Key k) at s = options_left (suc k) at s
rest_of_string (L.Value k) at s = then_read (text value_limit) (options_left k) at s

-- after bytes that are passed over
unfoldable pub rest_after : Gap → ℕ → List ℕ → Answer
rest_after P.Offset at s = blocks_left 1 0 at s
rest_after (P.Times d k) at s = then_read (blocks d) (files_left k) at s
rest_after (P.Hash m k) at s = blocks_left m k at s

-- at each goal
abbrev pub rest_of : Goal → ℕ → List ℕ → Answer
rest_of (G.Word f) at s = rest_of_word f at s
rest_of (G.String l) at s = rest_of_string l at s
rest_of (G.Skip n a) at s = skipping n (rest_after a) at s
rest_of G.Ended at s = Ok (Some at)
rest_of (G.Stopped n) at s = Err (record { number = n; place = at })

-- the bytes that a number was made of, of which so many have come
abbrev pub buffered : ℕ → ℕ → List ℕ
buffered zero v = []
buffered (suc c) v = buffered c (v / 256) ++ (v % 256 ∷ [])

-- the text rule after one more byte, at position i: `left` followers are missing of the sequence at `start`, and 4 says that it breaks the rule
abbrev pub text_after : Scan → (i b part : ℕ) → Scan
text_after q i b part =
    cond (eqb q.left 0) (record { left = followers b; low = lowest b; high = highest b; start = i; part = part })
    (cond (leb q.left 3)
    (cond (is_within q.low q.high b) (record { left = q.left - 1; low = 128; high = 191; start = q.start; part = part })
    (record { left = 4; low = q.low; high = q.high; start = q.start; part = part }))
    (record { left = q.left; low = q.low; high = q.high; start = q.start; part = part }))

-- a name after one more byte, by the part at hand: 0 empty, 1 a dot, 2 two dots, 3 one that leads down, 4 where the name does not
abbrev pub part_after : (part b : ℕ) → ℕ
part_after p b =
    cond (leb 4 p) 4
    (cond (eqb b 0) 4
    (cond (eqb b 47) (cond (eqb p 3) 0 4)
    (cond (eqb b 46) (cond (leb p 1) (p + 1) 3) 3)))

-- what a rule makes of one more byte
abbrev pub scan_after : Rule → Scan → (i b : ℕ) → Scan
scan_after R.Opaque q i b = q
scan_after R.Text q i b = text_after q i b q.part
scan_after R.Name q i b = text_after q i b (part_after q.part b)

-- and of some bytes, the first of which is at position i
abbrev pub scanned : Rule → Scan → ℕ → List ℕ → Scan
scanned rule q i [] = q
scanned rule q i (b ∷ l) = scanned rule (scan_after rule q i b) (suc i) l

-- before the first byte
abbrev pub fresh : Scan
fresh = record { left = 0; low = 128; high = 191; start = 0; part = 0 }

-- whether contents keep the text rule, where a rule asks for it
abbrev pub passes : Rule → Scan → Bool
passes R.Opaque q = true
passes R.Text q = eqb q.left 0
passes R.Name q = eqb q.left 0

-- whether they are as many as the rule wants
abbrev pub fills : Rule → ℕ → Bool
fills R.Opaque n = true
fills R.Text n = true
fills R.Name n = leb 1 n

-- whether they are a name that leads down, where the rule asks for it
abbrev pub leads : Rule → Scan → Bool
leads R.Opaque q = true
leads R.Text q = true
leads R.Name q = eqb q.part 3

-- the position of the first pad byte that is not zero, or the number of pad bytes: so many zeros came before, and one was not where it is bad
abbrev pub zeros_from : (zeros : ℕ) → Bool → List ℕ → ℕ
zeros_from zeros bad l = cond bad zeros (zeros + zeros_up_to l)

-- a string of n bytes that is wholly there: its pad (6), its text (7), its length (8), its parts (24)
abbrev pub whole_string : Rule → Rest → (place n zeros : ℕ) → Scan → List ℕ → Answer
whole_string rule k place n zeros q t =
    cond (eqb zeros (padded n - n))
    (cond (passes rule q)
    (cond (fills rule n) (cond (leads rule q) (k (place + (4 + padded n)) t) (stop 24 place)) (stop 8 place))
    (stop 7 (place + (4 + q.start))))
    (stop 6 (place + (4 + (n + zeros))))

-- a string of n bytes, whose length word stands at a place: c of them and z of its pad are still to come, the next at position i
abbrev pub contents_from : Rule → Rest → (place n i c z : ℕ) → Scan → (zeros : ℕ) → Bool → List ℕ → Answer
contents_from rule k place n i c z q zeros bad t =
    cond (leb (c + z) (length t))
    (whole_string rule k place n (zeros_from zeros bad (take z (drop c t))) (scanned rule q i (take c t)) (drop (c + z) t))
    (Ok None)

-- the rule of each
abbrev pub rule_of : StringField → Rule
rule_of L.Index = R.Text
rule_of L.Request = R.Text
rule_of L.RequestName = R.Name
rule_of L.Data = R.Opaque
rule_of (L.File k) = R.Name
rule_of (L.Key k) = R.Text
rule_of (L.Value k) = R.Text

-- the limit of its length
abbrev pub limit_of : StringField → ℕ
limit_of L.Index = repository_limit
limit_of L.Request = repository_limit
limit_of L.RequestName = name_limit
limit_of L.Data = data_limit
limit_of (L.File k) = name_limit
limit_of (L.Key k) = key_limit
limit_of (L.Value k) = value_limit

-- so many options to come
abbrev pub options_goal : ℕ → Goal
options_goal zero = G.Ended
options_goal (suc n) = G.String (L.Key n)

-- the goal after a string
abbrev pub behind_string : StringField → Goal
behind_string L.Index = G.Word F.FileCount
behind_string L.Request = G.String L.RequestName
behind_string L.RequestName = G.Skip 8 P.Offset
behind_string L.Data = G.Ended
behind_string (L.File k) = G.Word (F.Flags k)
behind_string (L.Key k) = G.String (L.Value k)
behind_string (L.Value k) = options_goal k

-- what the contents still to come make of a string
abbrev pub inside : Cursor → Goal → List ℕ → Answer
inside st (G.String l) t =
    contents_from (rule_of l) (rest_of (behind_string l)) st.place st.value st.at st.todo st.pad st.scan st.zeros st.bad t
inside st (G.Word f) t = Ok None
inside st (G.Skip n a) t = Ok None
inside st G.Ended t = Ok None
inside st (G.Stopped n) t = Ok None

-- what the bytes still to come make of a state with a goal
abbrev pub rest_from : Goal → Cursor → List ℕ → Answer
rest_from g st t = cond (leb st.have 3) (rest_of g st.place (buffered st.have st.value ++ t)) (inside st g t)

-- what the bytes still to come make of a state
unfoldable pub rest : Cursor → List ℕ → Answer
rest st t = rest_from st.goal st t

-- the state at a goal, of whose word so many bytes have come
abbrev pub gathered : Goal → (place have value : ℕ) → Cursor
gathered g p c v = record { goal = g; place = p; have = c; value = v; at = 0; todo = 0; pad = 0; scan = fresh; zeros = 0; bad = false }

-- the state at the start of a goal
abbrev pub at_goal : Goal → ℕ → Cursor
at_goal g p = gathered g p 0 0

-- the state before any byte
abbrev pub starting : Edition → Cursor
starting e = at_goal (G.Word (F.Start e)) 0

-- the state of a refusal
abbrev pub stopped : ℕ → ℕ → Cursor
stopped n p = at_goal (G.Stopped n) p
