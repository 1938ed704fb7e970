mod Sole
