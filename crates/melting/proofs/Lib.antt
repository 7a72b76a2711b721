mod Fielding
