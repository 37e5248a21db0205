-- Words of contracts: the two default lists that a build supplies, passed on as one value.
use Rattle.rules.specs.declared.DefaultLists.{DefaultLists}
use Rattle.rules.specs.Defaults.{Defaults, defaults}

abbrev pub supplied : DefaultLists → Defaults
supplied lists = defaults lists.creds.now lists.aces.now
