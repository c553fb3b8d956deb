-- Each setting goes right behind the one before it.
use Rattle.std.specs.Option.{option_copied}
use Rattle.settings.proofs.SavingLaws.{store_all}
use Rattle.settings.proofs.saving.store.Goals as goal

pub returns : goal.returns
returns c =
    store_all (option_copied c.args.own.window) (option_copied c.args.own.allowance) (option_copied c.args.own.repository) (option_copied c.args.own.note) c.args.carried.now c.args.out.now c.requires
    c.store_setting-second.ensures.0 c.store_setting-second.ensures.1 c.store_setting.ensures.0 c.store_setting.ensures.1
    c.store_setting-2.ensures.0 c.store_setting-2.ensures.1 c.store_setting-3.ensures.0 c.store_setting-3.ensures.1 c.put_raw.ensures.1
