-- Nothing, or the head of a field and its contents behind it.
use Prim.Native.Nat.{ℕ, ◌+◌, ◌≤◌}
use mathlib.Core.List.{List}
use mathlib.Core.Path.{◌≡◌, sym, subst}
use denote.Ref.{Bor}
use lib.ListN.{length}
use Rattle.std.specs.Option.{option_copied}
use Rattle.std.specs.declared.option.Option.{Option}
use Rattle.xdr.specs.Buffer.{put}
use Rattle.settings.specs.Saving.{setting_bytes}
use Rattle.settings.proofs.SavingLaws.{store_field}
use Rattle.settings.proofs.saving.store_setting.Goals as goal

pub returns : goal.returns
returns c =
    let room = subst (λ (x : Option (Bor (List ℕ))). c.args.at + length (setting_bytes c.args.tag (option_copied x)) ≤ length c.args.out.now) c.in-Some.is c.requires.0 in
    subst
    (λ (x : Option (Bor (List ℕ))).
    (3 + length c.in-Some.contents.now ≡ length (setting_bytes c.args.tag (option_copied x))) × (c.put_raw-2.new.out ≡ put c.args.out.now c.args.at (setting_bytes c.args.tag (option_copied x))))
    (sym c.in-Some.is)
    (store_field c.args.out.now c.args.at c.args.tag c.in-Some.contents.now room c.put_raw.ensures.1 c.put_raw-2.ensures.1)
