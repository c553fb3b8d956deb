-- Looking a name up in a table, the bytes of spans, and the ruling by what was read.
use Rattle.std.specs.Prelude.{Ok}
use Rattle.std.specs.Prelude.{Some, None}
use Rattle.std.specs.declared.result.Result.{Result}
use Rattle.std.specs.declared.option.Option.{Option}
use Rattle.xdr.specs.declared.answer.Refusal.{Refusal}
use Prim.Native.Nat.{ℕ, ◌+◌, ◌-◌, ◌≤◌, ◌<◌}
use mathlib.Core.List.{List, []}
use mathlib.Core.Path.{◌≡◌, refl, sym, ap, subst, ◌∙◌}
use mathlib.Core.Bool.{Bool, true, false, cond}
use native.Mathlib.Omega.{arith}
use lib.ListN.{length, take, drop}
use Rattle.xdr.specs.Number.{IsBytes}
use Rattle.xdr.proofs.FillingLaws.{in_room_lem}
use Rattle.record.specs.Block.{Block}
use Rattle.record.specs.File.{File}
use Rattle.record.specs.Outline.{outline_of, fields_of}
use Rattle.record.specs.declared.outline.RecordFields.{RecordFields}
use Rattle.xdr.specs.Filling.{Outcome, refuses, buffer_after, Fills}
use Rattle.message.specs.Answers.{span_bytes, message_in}
use Rattle.message.specs.Message.{message}
use Rattle.message_write.specs.Writing.{writing, response_bytes}
use Rattle.message.specs.declared.answer.Span.{Span}
use Rattle.message.specs.declared.answer.RequestSpan.{RequestSpan}
use Rattle.message.specs.declared.answer.Message.{Message}
use Rattle.order.specs.Order.{is_equal, compare_lists, part}
use Rattle.std.specs.declared.cmp.Ordering.{Ordering}
use Rattle.table.specs.Table.{is_good, records}
use Rattle.table.proofs.TableLaws.{good_table}
use Rattle.table.specs.Steps.Standing.{At}
use Rattle.table.proofs.WalkLaws.{at_start_lem, standing}
use Rattle.order.proofs.PartLaws.{part_beyond, part_cut}
use Rattle.want.specs.Listing.{listed, has_there, lists_there, block_with}
use Rattle.want.specs.Steps.Blocks.{blocks_from, listed_count}
use Rattle.want.specs.Steps.Places.{lists_at}
use Rattle.want.proofs.ListingLaws.{Heads, heads, none_here, listed_blocks}
use Rattle.want.proofs.ThereLaws.{lists_by_lem}
use Rattle.serve.specs.Ruling.{is_ours, Ruling, serves, fills, ruling_on, ruling_of, reply_answer, Rules}
use Rattle.message.specs.Kinds.{request_in}
use Rattle.message.specs.declared.kind.RequestIn.{RequestIn}
use Rattle.message.specs.declared.edition.Edition.TheVariants as E
use Rattle.serve.specs.declared.ruling.Serving.{Serving}
use Rattle.serve.specs.declared.ruling.Serving.TheVariants as S

-- the record of a name is not among those passed
pub record Looking (t name : List ℕ) (at : ℕ) : Type 0 where
  pub left : List File
  pub here : At t at left
  pub same : (offset : ℕ) (b : Block) → lists_there (records t) name offset b ≡ lists_there left name offset b

pub look_starts : (t name : List ℕ) → IsBytes t → is_good t ≡ true → Looking t name 4
look_starts t name p g = record { left = records t; here = at_start_lem (good_table t p g); same = λ offset b. refl }

module _ {t name : List ℕ} {at : ℕ} (w : Looking t name at) {x : Option RecordFields} (e : x ≡ outline_of t at) where
  pub look_ends : (offset : ℕ) (b : Block) → x ≡ None → false ≡ lists_there (records t) name offset b
  look_ends offset b g = sym (w.same offset b ∙ ap (λ (l : List File). lists_there l name offset b) (none_here w.left w.here e g))

  module _ {f : RecordFields} (g : x ≡ Some f) where
    abbrev there : Heads t at w.left f
    there = heads w.left w.here e g

    past_is : f.past ≡ (fields_of at there.head).past
    past_is = ap (λ (y : RecordFields). y.past) there.fields_are

    pub look_less : length t - f.past < length t - at
    look_less = omega (arith, past_is, (standing there.here).next.inside, (standing there.here).sized)

    module _ {p : List ℕ} {o : Ordering} {r : Bool} (k : p ≡ part t f.name f.stop) (c : o ≡ compare_lists p name) (q : r ≡ is_equal o) where
      name_test : {v : Bool} → r ≡ v → is_equal (compare_lists there.head.name name) ≡ v
      name_test h =
          let n : part t f.name f.stop ≡ there.head.name = ap (λ (y : RecordFields). part t y.name y.stop) there.fields_are ∙ (standing there.here).name_is in
          sym (q ∙ ap is_equal (c ∙ ap (λ (l : List ℕ). compare_lists l name) (k ∙ n))) ∙ h

      by_head : (offset : ℕ) (b : Block) {v : Bool} → r ≡ v → lists_there (records t) name offset b ≡ cond v (has_there 0 (listed there.head) offset b) (lists_there there.tail name offset b)
      by_head offset b h =
          w.same offset b
          ∙ ap (λ (l : List File). lists_there l name offset b) there.is
          ∙ ap (λ (v : Bool). cond v (has_there 0 (listed there.head) offset b) (lists_there there.tail name offset b)) (name_test h)

      pub look_found : (offset : ℕ) (b : Block) {y : Bool} → r ≡ true → y ≡ lists_at t at name offset b → y ≡ lists_there (records t) name offset b
      look_found offset b h z =
          let blocks : blocks_from t f.first 0 (listed_count f) ≡ listed there.head = ap (λ (y : RecordFields). blocks_from t y.first 0 (listed_count y)) there.fields_are ∙ listed_blocks there.here in
          z ∙ sym (lists_by_lem name t at e g k c q offset b h) ∙ ap (λ (l : List Block). has_there 0 l offset b) blocks ∙ sym (by_head offset b h)

      pub look_on : r ≡ false → Looking t name f.past
      look_on h =
          record {
            left = there.tail;
            here = subst (λ (n : ℕ). At t n there.tail) (sym past_is) (standing there.here).next;
            same = λ offset b. by_head offset b h;
          }

-- the bytes of a span, by where it ends

module _ (s : List ℕ) (start count : ℕ) where
  span_part : part s start (start + count) ≡ take count (drop start s)
  span_part = let n : start + count - start ≡ count = omega arith in ap (λ (k : ℕ). take k (drop start s)) n

  pub span_beyond : length s < start → part s (length s) (length s) ≡ take count (drop start s)
  span_beyond h = part_beyond s start (start + count) h ∙ span_part

  pub span_cut : start ≤ length s → length s - start < count → part s start (length s) ≡ take count (drop start s)
  span_cut g h = part_cut s start (start + count) g (omega arith) ∙ span_part

  pub span_whole : part s start (start + count) ≡ take count (drop start s)
  span_whole = span_part

-- whether a Request is to be served

module _ (t repository m : List ℕ) (x : RequestSpan) {l : List ℕ} {o : Ordering} {r : Bool} (k : l ≡ span_bytes m x.repository) (c : o ≡ compare_lists l repository) (q : r ≡ is_equal o) where
  named : {v : Bool} → r ≡ v → is_equal (compare_lists (span_bytes m x.repository) repository) ≡ v
  named h = sym (q ∙ ap is_equal (c ∙ ap (λ (y : List ℕ). compare_lists y repository) k)) ∙ h

  pub not_ours : r ≡ false → false ≡ is_ours t repository m x
  not_ours h = rw (named h) refl

  pub ours_by : {n h : List ℕ} {b : Bool} → r ≡ true → n ≡ span_bytes m x.name → h ≡ span_bytes m x.hash → b ≡ lists_there (records t) n x.offset (block_with x.size h) → b ≡ is_ours t repository m x
  ours_by {n} {h} {b} v f g e =
      rw (named v)
      (e
      ∙ ap (λ (y : List ℕ). lists_there (records t) y x.offset (block_with x.size h)) f
      ∙ ap (λ (y : List ℕ). lists_there (records t) (span_bytes m x.name) x.offset (block_with x.size y)) g)

-- the answer and the buffer, by the ruling

pub served_so : (out : List ℕ) (name : Span) (offset size : ℕ) → Rules (serves name offset size) out (Ok (S.Served name offset size)) out
served_so out name offset size = record { answered = refl; buffer = ap (λ (y : Outcome). buffer_after y out) (sym (in_room_lem [] (length out) (omega arith))) }

pub filled_in : {x : Outcome} {out : List ℕ} {w v : Result ℕ Refusal} {o : List ℕ} → Fills x out w o → w ≡ v → Rules (fills x) out (reply_answer v) o
filled_in p e = record { answered = ap reply_answer (sym e ∙ p.answered); buffer = p.buffer }

pub handed : {u : Ruling} {out : List ℕ} {r v : Result Serving Refusal} {o : List ℕ} → r ≡ v → Rules u out v o → Rules u out r o
handed e p = record { answered = e ∙ p.answered; buffer = p.buffer }

module _ (t repository m out : List ℕ) where
  pub ruled : {u : Ruling} {r : Result Serving Refusal} {o : List ℕ} → ruling_of t repository m ≡ u → Rules u out r o → Rules (ruling_of t repository m) out r o
  ruled {u} {r} {o} e p = subst (λ (v : Ruling). Rules v out r o) (sym e) p

  pub table_bad : is_good t ≡ false → ruling_of t repository m ≡ fills (refuses 15 0)
  unfolding ruling_of
  table_bad e = rw e refl

  pub table_good : {a : Result Message Refusal} {b c : Result RequestIn Refusal} → is_good t ≡ true → a ≡ message_in E.New m → b ≡ request_in a → b ≡ c → ruling_of t repository m ≡ ruling_on t repository m c
  unfolding ruling_of
  table_good e f g h = rw e (ap (ruling_on t repository m) (ap request_in (sym f) ∙ sym g ∙ h))

  module _ (q : RequestIn) {r : Bool} (e : r ≡ is_ours t repository m q.request) where
    pub ours_served : r ≡ true → ruling_on t repository m (Ok q) ≡ serves q.request.name q.request.offset q.request.size
    ours_served f = rw (sym e ∙ f) refl

    pub ours_not : r ≡ false → ruling_on t repository m (Ok q) ≡ fills (writing (message E.New) q.id 3 (response_bytes []))
    ours_not f = rw (sym e ∙ f) refl
