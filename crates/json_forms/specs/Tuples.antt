-- Arrays of a fixed length.
use Rattle.std.specs.Prelude.{Option, Some, None}
use Rattle.serde_json.specs.Data.{Data, Items, no_items, item}

-- exactly two items
abbrev pub two_of : Items → Option (Data × Data)
two_of (item a (item b no_items)) = Some (a, b)
two_of _ = None

-- exactly three items
abbrev pub three_of : Items → Option (Data × Data × Data)
three_of (item a (item b (item c no_items))) = Some (a, b, c)
three_of _ = None

-- exactly four items
abbrev pub four_of : Items → Option (Data × Data × Data × Data)
four_of (item a (item b (item c (item d no_items)))) = Some (a, b, c, d)
four_of _ = None

-- exactly five items
abbrev pub five_of : Items → Option (Data × Data × Data × Data × Data)
five_of (item a (item b (item c (item d (item e no_items))))) = Some (a, b, c, d, e)
five_of _ = None

-- exactly six items
abbrev pub six_of : Items → Option (Data × Data × Data × Data × Data × Data)
six_of (item a (item b (item c (item d (item e (item f no_items)))))) = Some (a, b, c, d, e, f)
six_of _ = None

-- exactly seven items
abbrev pub seven_of : Items → Option (Data × Data × Data × Data × Data × Data × Data)
seven_of (item a (item b (item c (item d (item e (item f (item g no_items))))))) = Some (a, b, c, d, e, f, g)
seven_of _ = None
